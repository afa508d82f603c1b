use Rattle.std.proofs.Common.{sym, ap, ◌∙◌, ok_or}
use Rattle.std.specs.Str.Iter.{chars_rest}
use Rattle.ipld_ser.specs.declared.error.SerdeError.TheVariants.{NotOneChar}
use Rattle.ipld_de.proofs.Characters.{one_char, several_chars}
use Rattle.ipld_de.proofs.deserializer.single_char.Goals as goal

pub returns-in-None-next : goal.returns-in-None-next
returns-in-None-next c =
    ap (λ o. ok_or o NotOneChar) (sym (one_char c.args.text.now (chars_rest c.next.new.self) c.in-Some.only c.utf8.text (sym c.chars-chars.ensures.rest ∙ c.in-Some.ensures.steps.0) c.in-None-next.ensures.steps.0.0))

pub returns-in-Some-next : goal.returns-in-Some-next
returns-in-Some-next c =
    ap (λ o. ok_or o NotOneChar) (sym (several_chars c.args.text.now (chars_rest c.next.new.self) c.in-Some.only c.in-Some-next.field-0 c.utf8.text (sym c.chars-chars.ensures.rest ∙ c.in-Some.ensures.steps.0) c.in-Some-next.ensures.steps.2))
