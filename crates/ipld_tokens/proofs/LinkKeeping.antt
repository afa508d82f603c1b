-- A link that an allocation fails to keep.
use Rattle.std.proofs.Common.{◌≡◌, ℕ, List, Result, Err, IsSome, sym, subst, inl}
use Rattle.ipld_cid.specs.Cid.{Link}
use Rattle.ipld_tokens.specs.LinkBytes.{read_link}
use Rattle.ipld_tokens.specs.ExtractMachine.{ExtractState}
use Rattle.ipld_tokens.specs.ExtractorState.{Keeps, Reads}
use Rattle.ipld_tokens.specs.declared.consumer.Rejection.{Rejection}
use Rattle.ipld_tokens.specs.declared.consumer.Rejection.TheVariants as rejection
use Rattle.ipld_tokens.specs.declared.extractor.Extractor.{Extractor}

not_kept : (A B : Type 0) {S : ℕ} (before after : Extractor S) (cid : Link) (b : List ℕ) (expected next : ExtractState) (e : Rejection)
    → Keeps {A = A} before cid after (Err e) → IsSome (read_link S b) → Reads {A = B} S before.keeps b expected next (Err e)
not_kept A B before after cid b expected next rejection.Memory h is = inl (h, is)
not_kept A B before after cid b expected next rejection.Token h is = absurd h
not_kept A B before after cid b expected next (rejection.Cid cid_error) h is = absurd h
not_kept A B before after cid b expected next rejection.DuplicateKey h is = absurd h

pub unkept : (A B : Type 0) {S : ℕ} (before after : Extractor S) (cid : Link) (b : List ℕ) (expected next : ExtractState) (r : Result B Rejection) (e : Rejection)
    → r ≡ Err e → Keeps {A = A} before cid after (Err e) → IsSome (read_link S b) → Reads S before.keeps b expected next r
unkept A B {S = S} before after cid b expected next r e p h is =
    subst (λ x. Reads S before.keeps b expected next x) (sym p) (not_kept A B before after cid b expected next e h is)
