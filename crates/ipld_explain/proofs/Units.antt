-- Variants without content.
use Rattle.std.proofs.Common.{◌≡◌, ℕ, List, Some, ap}
use Rattle.std.specs.Option.{ok_or}
use Rattle.std.specs.Result.{result_ok}
use Rattle.ipld_tree.specs.Tree.{Tree}
use Rattle.ipld_tree.specs.Convert.{nothing_in}
use Rattle.ipld_de.specs.Reading.{OtherKind, wrong_kind}
use Rattle.ipld_explain.specs.Path.{key}
use Rattle.ipld_explain.specs.Failures.{Failure, under, FailsHere, Explains}
use Rattle.ipld_explain.specs.Enums.{unit_reading, UnitFails, ExplainsContent}
use Rattle.ipld_explain.specs.declared.explanation.Expected.TheVariants.{Null}
use Rattle.ipld_explain.proofs.Variants.{inner_leads}

-- the content is another value than Null
pub unit_fails : (name : List ℕ) (t : Tree) (g f : Failure) → Explains nothing_in (λ u. FailsHere Null (OtherKind u)) t (Some g) → f ≡ under (key name) g
    → ExplainsContent unit_reading UnitFails name (Some t) (Some f)
unit_fails name t g f why is = (ap (λ o. result_ok (ok_or o (wrong_kind t))) why.0, inner_leads name t g f is why.1, (g, why.2, is))
