-- A text that is written after another.
use Rattle.std.proofs.Common.{refl, ℕ, List, ◌++◌}
use Rattle.std.proofs.Output.{has_written_append, has_written_styled_append}
use Rattle.std.specs.Prelude.{Ok}
use Rattle.std.specs.declared.fmt.Formatter.{Formatter}
use Rattle.std.specs.declared.fmt.Error.{Error}
use Rattle.std.specs.declared.result.Result.{Result}
use Rattle.std.specs.Fmt.{WritesOnOk, WritesStyledOnOk}

-- the second text follows the first
pub then_written : {W : Type 0} {took : W → List ℕ → W → Type 0} {f g h : Formatter W} {a b : List ℕ} (r : Result (Unit {0}) Error)
    → WritesOnOk took f (Ok tt) a g → WritesOnOk took g r b h → WritesOnOk took f r (a ++ b) h
then_written r p q = λ plain ok.
    let first = p plain refl in
    has_written_append _ _ _ _ _ _ first (q first.plain ok)

-- the same under any options
pub then_styled : {W : Type 0} {took : W → List ℕ → W → Type 0} {f g h : Formatter W} {a b : List ℕ} (r : Result (Unit {0}) Error)
    → WritesStyledOnOk took f (Ok tt) a g → WritesStyledOnOk took g r b h → WritesStyledOnOk took f r (a ++ b) h
then_styled r p q = λ flush ok.
    let first = p flush refl in
    has_written_styled_append _ _ _ _ _ _ first (q first.flush ok)
