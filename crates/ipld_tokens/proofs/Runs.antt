-- Runs of the machine over the tokens of items.
use Rattle.std.proofs.Common.{◌≡◌, ℕ, Bool, true, false, List, [], ◌∷◌, ◌++◌, Some, refl, sym, ap, ◌∙◌, append_assoc}
use Rattle.std.proofs.lemmas.List.{append-nil}
use Rattle.ipld_cid.specs.Cid.{Link}
use Rattle.ipld_cid.specs.Bytes.{IsCid}
use Rattle.ipld_tokens.specs.Token.{TokenModel, seq_end, map_end}
use Rattle.ipld_tokens.specs.Item.{Item, atom_item, bytes_item, some_item, variant_item, list_item, map_item, link_item, Parts, no_parts, part, Pairs, no_pairs, pair, tokens_of, parts_tokens, pairs_tokens, links_in, parts_links, pairs_links}
use Rattle.ipld_tokens.specs.LinkBytes.{read_link}
use Rattle.ipld_tokens.proofs.Consuming as consuming
use Rattle.ipld_tokens.specs.ExtractMachine.{ExtractState, open_at, done, rejected, kept, key_frame, closed, ended, map_ended, link_read, step, run, start}
use Rattle.ipld_tokens.specs.declared.extractor.Frame.{Frame}
use Rattle.ipld_tokens.specs.declared.extractor.Frame.TheVariants.{Whole, Key, InnerKey, Value}
use Rattle.ipld_tokens.specs.declared.extractor.Frame.TheVariants as frame

pub run_append : (S : ℕ) (s : ExtractState) (p q : List TokenModel) → run S s (p ++ q) ≡ run S (run S s p) q
run_append S = consuming.run_append (step S)

pub run_rejected : (S : ℕ) (p : List TokenModel) → run S rejected p ≡ rejected
run_rejected S [] = refl
run_rejected S (t ∷ p) = run_rejected S p

kept_none : (keeps : Bool) (out : List Link) → out ++ kept keeps [] ≡ out
kept_none true out = append-nil out
kept_none false out = append-nil out

kept_more : (keeps : Bool) (out xs ys : List Link) → (out ++ kept keeps xs) ++ kept keeps ys ≡ out ++ kept keeps (xs ++ ys)
kept_more true out xs ys = append_assoc out xs ys
kept_more false out xs ys = append-nil (out ++ [])

closed_key : (keeps inside : Bool) (fs : List Frame) (out : List Link) → closed inside (key_frame keeps) fs out ≡ open_at false keeps Value fs out
closed_key true inside fs out = refl
closed_key false inside fs out = refl

ended_key : (keeps inside : Bool) (fs : List Frame) (out : List Link) → map_ended inside (key_frame keeps) fs out ≡ ended keeps fs out
ended_key true inside fs out = refl
ended_key false inside fs out = refl

module _ (S : ℕ) (reads : (b : List ℕ) (cid : Link) → IsCid S b cid → read_link S b ≡ Some cid) where
  mutual
    pub over_item : (i : Item S) (must keeps : Bool) (f : Frame) (fs : List Frame) (out : List Link)
        → run S (open_at must keeps f fs out) (tokens_of i) ≡ closed keeps f fs (out ++ kept keeps (links_in i))
    over_item (atom_item a) must keeps f fs out = ap (closed keeps f fs) (sym (kept_none keeps out))
    over_item (bytes_item b) must keeps f fs out = ap (closed keeps f fs) (sym (kept_none keeps out))
    over_item (some_item i) must keeps f fs out = over_item i true keeps f fs out
    over_item (variant_item name i) must keeps f fs out = over_item i true keeps f fs out
    over_item (list_item is) must keeps f fs out =
        run_append S (open_at false keeps frame.List (f ∷ fs) out) (parts_tokens is) (seq_end ∷ [])
        ∙ ap (λ s. run S s (seq_end ∷ [])) (over_parts is keeps (f ∷ fs) out)
    over_item (map_item ps) must keeps f fs out =
        run_append S (open_at false false (key_frame keeps) (f ∷ fs) out) (pairs_tokens ps) (map_end ∷ [])
        ∙ ap (λ s. run S s (map_end ∷ [])) (over_pairs ps keeps (f ∷ fs) out)
        ∙ ended_key keeps false (f ∷ fs) (out ++ kept keeps (pairs_links ps))
    over_item (link_item b cid is) must keeps f fs out = ap (λ o. link_read o keeps f fs out) (reads b cid is)

    over_parts : (is : Parts S) (keeps : Bool) (fs : List Frame) (out : List Link)
        → run S (open_at false keeps frame.List fs out) (parts_tokens is) ≡ open_at false keeps frame.List fs (out ++ kept keeps (parts_links is))
    over_parts no_parts keeps fs out = ap (open_at false keeps frame.List fs) (sym (kept_none keeps out))
    over_parts (part i is) keeps fs out =
        run_append S (open_at false keeps frame.List fs out) (tokens_of i) (parts_tokens is)
        ∙ ap (λ s. run S s (parts_tokens is)) (over_item i false keeps frame.List fs out)
        ∙ over_parts is keeps fs (out ++ kept keeps (links_in i))
        ∙ ap (open_at false keeps frame.List fs) (kept_more keeps out (links_in i) (parts_links is))

    over_pairs : (ps : Pairs S) (keeps : Bool) (fs : List Frame) (out : List Link)
        → run S (open_at false false (key_frame keeps) fs out) (pairs_tokens ps) ≡ open_at false false (key_frame keeps) fs (out ++ kept keeps (pairs_links ps))
    over_pairs no_pairs keeps fs out = ap (open_at false false (key_frame keeps) fs) (sym (kept_none keeps out))
    over_pairs (pair k v ps) keeps fs out =
        run_append S (open_at false false (key_frame keeps) fs out) (tokens_of k) (tokens_of v ++ pairs_tokens ps)
        ∙ ap (λ s. run S s (tokens_of v ++ pairs_tokens ps))
        (over_item k false false (key_frame keeps) fs out ∙ closed_key keeps false fs (out ++ []) ∙ ap (open_at false keeps Value fs) (append-nil out))
        ∙ run_append S (open_at false keeps Value fs out) (tokens_of v) (pairs_tokens ps)
        ∙ ap (λ s. run S s (pairs_tokens ps)) (over_item v false keeps Value fs out)
        ∙ over_pairs ps keeps fs (out ++ kept keeps (links_in v))
        ∙ ap (open_at false false (key_frame keeps) fs) (kept_more keeps out (links_in v) (pairs_links ps))

  -- an item takes the machine to its links
  pub over_whole : (i : Item S) → run S start (tokens_of i) ≡ done (links_in i)
  over_whole i = over_item i true true Whole [] []

pub closed_same : (a b : Bool) (f h : Frame) (fs hs : List Frame) (xs ys : List Link) → a ≡ b → f ≡ h → fs ≡ hs → xs ≡ ys
    → closed a f fs xs ≡ closed b h hs ys
closed_same a b f h fs hs xs ys p q r s =
    ap (λ x. closed x f fs xs) p ∙ ap (λ x. closed b x fs xs) q ∙ ap (λ x. closed b h x xs) r ∙ ap (λ x. closed b h hs x) s
