-- The usual texts of CIDs.
use Rattle.std.specs.Prelude.{ℕ, List, [], ◌∷◌, ◌++◌}
use Rattle.std.specs.List.{flat_map}
use Rattle.ipld_cid.specs.Cid.{Link}
pub use Rattle.ipld_cid_text.specs.UsualText.{usual_text}

-- the usual texts of CIDs, one a line
abbrev pub lines_of : List Link → List ℕ
lines_of links = flat_map (λ link. usual_text link ++ 10 ∷ []) links
