-- What reading a tree returns is the outcome of `refs`.
use Rattle.std.proofs.Common.{◌≡◌, ℕ, Bool, List, [], ◌++◌, map, Option, Some, Result, Ok, Err, IfOk, true, sym, ap, subst, ◌∙◌, append-nil}
use Rattle.std.proofs.lemmas.Option.{same_Some, none-some}
use Rattle.std.specs.Prelude.{option_map}
use Rattle.ipld_cid.specs.declared.error.CidError.{CidError}
use Rattle.ipld_cid.specs.declared.cid.CidGeneric.{CidGeneric}
use Rattle.ipld_cid.specs.Cid.{Link}
use Rattle.ipld_cid.specs.LinkOf.{link_of}
use Rattle.ipld_tree.specs.Tree.{Tree}
use Rattle.ipld_tree.specs.TreeOf.{tree_of}
use Rattle.ipld_tree.specs.Walk.{links_of}
use Rattle.ipld_tree.specs.Appended.{Appends}
use Rattle.ipld_tree.specs.declared.ipld.Ipld.{Ipld}
use Rattle.ipld_tokens.specs.Token.{TokenModel}
use Rattle.ipld_tokens.specs.Item.{Item, tokens_of}
use Rattle.ipld_tokens.specs.ItemTree.{tree_of_item}
use Rattle.ipld_tokens.specs.Outcome.{IfToken, IfCid, IfEnd, IfDuplicateKey, EndsUnless, Taken, FindsUnless, TokenUnless, CidUnless, KeyUnless}
use Rattle.ipld_tokens.specs.CutTrees.{EndsWrong, EndsInBadCid, EndsWithRepeatedKey, IsUnfinished}
use Rattle.ipld_tokens.specs.ReadContract.{ReadsItem}
use Rattle.ipld_tokens.specs.declared.error.TokenError.{TokenError}
use Rattle.ipld_tokens.specs.declared.error.TokenError.TheVariants as error
use Rattle.ipld_links_run.specs.Said.{error_name}
use Rattle.ipld_links_run.specs.Outcome.{Outcome, TreeCase, tree, wrong_token, wrong_cid, repeated_key, unfinished, tree_outcome_in, ReferencesOutcome}

-- all links of a tree, appended to none
pub all_links : (before after : List (CidGeneric 64)) (ls : List Link) (done : Bool) → before ≡ [] → done ≡ true → Appends before after ls done
    → map link_of after ≡ ls
all_links before after ls done none is_done a =
    let is : after ≡ a.added = rw none at a.appended in
    ap (map link_of) is ∙ sym (append-nil _) ∙ ap (λ rest. map link_of a.added ++ rest) (sym (a.whole is_done)) ∙ sym a.beginning

-- what reading a tree promises of its result
pub record Reads {F : Type 0} (tokens after : List TokenModel) (r : Result Ipld (TokenError F)) : Type 0 where
  pub found : IfOk r (λ v. ReadsItem tokens after (tree_of v))
  pub only : (i : Item 64) (t : Tree) (rest : List TokenModel) → tokens ≡ tokens_of i ++ rest → tree_of_item i ≡ Some t
      → FindsUnless r (λ v. (tree_of v ≡ t) × (after ≡ rest))
  pub token : IfToken r (Taken EndsWrong tokens after)
  pub cid : IfCid r (λ cid_error. Taken (EndsInBadCid cid_error) tokens after)
  pub duplicate_key : IfDuplicateKey r (Taken EndsWithRepeatedKey tokens after)
  pub end : IfEnd r (IsUnfinished tokens × (after ≡ []))
  pub wrong : (taken rest : List TokenModel) → EndsWrong taken → tokens ≡ taken ++ rest → TokenUnless r (after ≡ rest)
  pub bad_cid : (cid_error : CidError) (taken rest : List TokenModel) → EndsInBadCid cid_error taken → tokens ≡ taken ++ rest → CidUnless cid_error r (after ≡ rest)
  pub again : (taken rest : List TokenModel) → EndsWithRepeatedKey taken → tokens ≡ taken ++ rest → KeyUnless r (after ≡ rest)
  pub open_end : IsUnfinished tokens → EndsUnless r

-- the outcome that a result is, unless there was a failed allocation or a source that failed
abbrev pub outcome_by_result : {F : Type 0} → Result Ipld (TokenError F) → Option Outcome
outcome_by_result (Ok v) = Some (Ok (links_of (tree_of v)))
outcome_by_result (Err e) = option_map Err (error_name e)

abbrev failing : {F : Type 0} → TokenError F → Result Ipld (TokenError F)
failing e = Err e

named_outcome : Option (List ℕ) → Option Outcome
named_outcome name = option_map Err name

-- the outcome of an error that has a name
pub outcome_of_error : {F : Type 0} (e : TokenError F) (name : List ℕ) → error_name e ≡ Some name → outcome_by_result (failing e) ≡ Some (Err name)
unfolding named_outcome
outcome_of_error e name is = ap named_outcome is

reports : {F : Type 0} (tokens after : List TokenModel) (r : Result Ipld (TokenError F)) (a : Outcome) → outcome_by_result r ≡ Some a → Reads tokens after r
    → (c : TreeCase tokens) → Some a ≡ Some (tree_outcome_in c)
reports tokens after (Ok x) a is p (tree i t rest at has) = sym is ∙ ap (λ t. Some (Ok (links_of t))) (p.only i t rest at has).0
reports tokens after (Ok x) a is p (wrong_token front rest at ends) = absurd (p.wrong front rest ends at)
reports tokens after (Ok x) a is p (wrong_cid front rest cid_error at ends) = absurd (p.bad_cid cid_error front rest ends at)
reports tokens after (Ok x) a is p (repeated_key front rest at ends) = absurd (p.again front rest ends at)
reports tokens after (Ok x) a is p (unfinished begins) = absurd (p.open_end begins)
reports tokens after (Err error.Token) a is p (tree i t rest at has) = absurd (p.only i t rest at has)
reports tokens after (Err error.Token) a is p (wrong_token front rest at ends) = sym is
reports tokens after (Err error.Token) a is p (wrong_cid front rest cid_error at ends) = absurd (p.bad_cid cid_error front rest ends at)
reports tokens after (Err error.Token) a is p (repeated_key front rest at ends) = absurd (p.again front rest ends at)
reports tokens after (Err error.Token) a is p (unfinished begins) = absurd (p.open_end begins)
reports tokens after (Err (error.Cid e)) a is p (tree i t rest at has) = absurd (p.only i t rest at has)
reports tokens after (Err (error.Cid e)) a is p (wrong_token front rest at ends) = absurd (p.wrong front rest ends at)
reports tokens after (Err (error.Cid e)) a is p (wrong_cid front rest cid_error at ends) = sym is
reports tokens after (Err (error.Cid e)) a is p (repeated_key front rest at ends) = absurd (p.again front rest ends at)
reports tokens after (Err (error.Cid e)) a is p (unfinished begins) = absurd (p.open_end begins)
reports tokens after (Err error.End) a is p (tree i t rest at has) = absurd (p.only i t rest at has)
reports tokens after (Err error.End) a is p (wrong_token front rest at ends) = absurd (p.wrong front rest ends at)
reports tokens after (Err error.End) a is p (wrong_cid front rest cid_error at ends) = absurd (p.bad_cid cid_error front rest ends at)
reports tokens after (Err error.End) a is p (repeated_key front rest at ends) = absurd (p.again front rest ends at)
reports tokens after (Err error.End) a is p (unfinished begins) = sym is
reports tokens after (Err error.DuplicateKey) a is p (tree i t rest at has) = absurd (p.only i t rest at has)
reports tokens after (Err error.DuplicateKey) a is p (wrong_token front rest at ends) = absurd (p.wrong front rest ends at)
reports tokens after (Err error.DuplicateKey) a is p (wrong_cid front rest cid_error at ends) = absurd (p.bad_cid cid_error front rest ends at)
reports tokens after (Err error.DuplicateKey) a is p (repeated_key front rest at ends) = sym is
reports tokens after (Err error.DuplicateKey) a is p (unfinished begins) = absurd (p.open_end begins)
reports tokens after (Err error.Memory) a is p v = absurd (none-some a is)
reports tokens after (Err (error.Source e)) a is p v = absurd (none-some a is)

comes : {F : Type 0} (tokens after : List TokenModel) (r : Result Ipld (TokenError F)) (a : Outcome) → outcome_by_result r ≡ Some a → Reads tokens after r → TreeCase tokens
comes tokens after (Ok x) a is p = let f = p.found in tree f.0 (tree_of x) after f.1 f.2
comes tokens after (Err error.Token) a is p = let t = p.token in wrong_token t.0 after t.1 t.2
comes tokens after (Err (error.Cid e)) a is p = let t = p.cid in wrong_cid t.0 after e t.1 t.2
comes tokens after (Err error.End) a is p = let t = p.end in unfinished t.0
comes tokens after (Err error.DuplicateKey) a is p = let t = p.duplicate_key in repeated_key t.0 after t.1 t.2
comes tokens after (Err error.Memory) a is p = absurd (none-some a is)
comes tokens after (Err (error.Source e)) a is p = absurd (none-some a is)

pub reports_tree : {F : Type 0} (tokens after all : List TokenModel) (r : Result Ipld (TokenError F)) (a : Outcome) → tokens ≡ all → outcome_by_result r ≡ Some a
    → Reads tokens after r → ReferencesOutcome all a
reports_tree tokens after all r a same is p =
    subst (λ ts. ReferencesOutcome ts a) same (record {
      case = comes tokens after r a is p;
      exact = λ c. same_Some a (tree_outcome_in c) (reports tokens after r a is p c);
    })
