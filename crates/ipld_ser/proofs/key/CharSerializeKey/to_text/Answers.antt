use Rattle.std.proofs.Common.{rules}
use Rattle.ipld_ser.proofs.Characters.{char_key, char_own}
use Rattle.ipld_ser.proofs.key.CharSerializeKey.to_text.Goals as goal

pub returns-clause-ok : goal.returns-clause-ok
returns-clause-ok c = char_key c.args.self.now _ (search rules) (search rules)

pub returns-clause-own : goal.returns-clause-own
returns-clause-own c = char_own c.args.self.now (search rules)

pub returns-in_err-push-clause-own : goal.returns-in_err-push-clause-own
returns-in_err-push-clause-own c = char_own c.args.self.now (search rules)
