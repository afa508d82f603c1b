use Rattle.std.proofs.Common.{refl, ℕ, List}
use Rattle.std.proofs.Output.{displays_on_IsOk_append}
use Rattle.std.specs.Prelude.{Ok, None, Some}
use Rattle.std.specs.declared.fmt.Error.{Error}
use Rattle.std.specs.declared.fmt.Formatter.{Formatter}
use Rattle.std.specs.declared.option.Option.{Option}
use Rattle.std.specs.declared.result.Result.{Result}
use Rattle.std.specs.Fmt.{DisplaysStyledOnOk, WritesStyledOnOk, ◌++?◌}
use Rattle.ipld_cid.proofs.Sentences.{then_styled}
use Rattle.ipld_car.proofs.error.CarErrorDisplay.fmt.Goals as goal

-- the second text follows the first, if that is specified
displays_then : {W : Type 0} (took : W → List ℕ → W → Type 0) (f g h : Formatter W) (r : Result (Unit {0}) Error) (o : Option (List ℕ)) (bs : List ℕ)
    → DisplaysStyledOnOk took f (Ok tt) o g → WritesStyledOnOk took g r bs h → DisplaysStyledOnOk took f r (o ++? Some bs) h
displays_then took f g h r None bs p q = tt
displays_then took f g h r (Some a) bs p q = then_styled r p q

pub returns-clause-writes : goal.returns-clause-writes
returns-clause-writes g c = displays_on_IsOk_append g.W.Write.write_str_gives _ _ _ (Ok tt) _ _ _ (λ _. refl) c.in_ok-fmt.ensures.writes c.write_number.ensures.writes

pub returns-clause-styled : goal.returns-clause-styled
returns-clause-styled g c = displays_then g.W.Write.write_str_gives _ _ _ _ _ _ c.in_ok-fmt.ensures.styled c.write_number.ensures.styled
