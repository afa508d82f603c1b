-- Where symbolic links lead (POSIX, pathname resolution).
use Rattle.std.specs.Prelude.{ℕ, ◌-◌, ◌==◌, ◌||◌, ◌&&◌, not, Bool, true, false, List, [], ◌∷◌, Option, Some, None, bytes_eq, codes, if◌then◌else◌}
use Rattle.ipld_tree.specs.Path.{parts_of}

-- How many folders up a path may lead behind a segment, if it may lead up so many before it. `None`
-- if the segment leads too far. Behind a name it may lead up no more, since the name can be that of
-- another link.
unfoldable pub levels_after : ℕ → List ℕ → Option ℕ
levels_after levels segment =
    if bytes_eq segment [] || bytes_eq segment (codes ".") then Some levels
    else if bytes_eq segment (codes "..") then (if levels == 0 then None else Some (levels - 1))
    else Some 0

-- the result for the folders that are left, or false if there are none
abbrev pub if_left : (ℕ → Bool) → Option ℕ → Bool
if_left next None = false
if_left next (Some levels) = next levels

-- whether a path of these segments leads up no more than so many folders
abbrev pub stays_below : List (List ℕ) → ℕ → Bool
stays_below [] levels = true
stays_below (segment ∷ segments) levels = if_left (stays_below segments) (levels_after levels segment)

-- whether a path begins with a slash
unfoldable pub is_absolute : List ℕ → Bool
is_absolute [] = false
is_absolute (c ∷ cs) = c == 47

-- Whether the target of a link is a relative path that leads to nothing outside of a folder, from a
-- folder so many levels below it.
abbrev pub stays_inside : ℕ → List ℕ → Bool
stays_inside depth path = not (is_absolute path) && stays_below (parts_of path) depth
