-- Paths that lead into lists and maps, and the segments that they are kept as.
use Rattle.std.proofs.Common.{◌≡◌, ◌++◌, List, [], ◌∷◌, map, reverse, Option, Some, None, option_and_then, is_some, false, IsSomeAnd, refl, ap, sym, subst}
use Rattle.std.proofs.lemmas.List.{reverse-append}
use Rattle.ipld_tree.specs.Tree.{Tree}
use Rattle.ipld_explain.specs.Path.{Step, at_path}
use Rattle.ipld_explain.specs.Failures.{step_of}
use Rattle.ipld_explain.specs.declared.explanation.Segment.{Segment}

pub none_of : {C : Type 0} (o : Option C) → is_some o ≡ false → o ≡ None
none_of None is = refl
none_of (Some c) is = absurd cc

-- a path that leads on from what a step leads to
pub leads_on : (t : Tree) (o : Option Tree) (path : List Step) (P : Tree → Type 0) → o ≡ Some t → IsSomeAnd (at_path path t) P → IsSomeAnd (option_and_then (at_path path) o) P
leads_on t o path P is here = subst (λ p. IsSomeAnd (option_and_then (at_path path) p) P) (sym is) here
