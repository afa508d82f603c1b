use Rattle.ipld_de.proofs.Characters.{char_from_text}
use Rattle.ipld_de.proofs.key.CharDeserializeKey.from_text.Goals as goal

pub returns-clause-ok : goal.returns-clause-ok
returns-clause-ok c = char_from_text _ c.as_str.result.now c.single_char.result c.as_str.utf8 c.as_str.ensures.value c.single_char.ensures
