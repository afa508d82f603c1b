-- Whether a link is among others.
use Rattle.std.specs.Prelude.{Bool, List}
use Rattle.std.specs.List.{list_any}
use Rattle.ipld_cid.specs.Cid.{Link}
use Rattle.ipld_cid.specs.Order.{link_eq}

-- Returns whether the link is in the list.
abbrev pub has : Link → List Link → Bool
has l ls = list_any (link_eq l) ls
