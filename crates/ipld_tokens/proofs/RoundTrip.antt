-- A tree that is read, and nothing else.
use Rattle.std.proofs.Common.{Result, Ok, Err}
use Rattle.ipld_tree.specs.declared.ipld.Ipld.{Ipld}
use Rattle.ipld_tokens.specs.Outcome.{FindsUnless}
use Rattle.ipld_tokens.specs.declared.error.TokenError.{TokenError}
use Rattle.ipld_tokens.specs.declared.error.TokenError.TheVariants as error

pub gives_first : {F : Type 0} (r : Result Ipld (TokenError F)) (P Q : Ipld → Type 0) → FindsUnless r (λ v. P v × Q v) → FindsUnless r P
gives_first (Ok v) P Q h = h.0
gives_first (Err error.Memory) P Q h = h
gives_first (Err (error.Source fault)) P Q h = h
gives_first (Err error.Token) P Q h = h
gives_first (Err (error.Cid cid_error)) P Q h = h
gives_first (Err error.End) P Q h = h
gives_first (Err error.DuplicateKey) P Q h = h
