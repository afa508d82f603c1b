-- What the state that tokens lead to says of them, and that two runs over one list of tokens agree.
use Rattle.std.proofs.Common.{◌≡◌, ℕ, ◌⊎◌, List, [], ◌∷◌, ◌++◌, Some, Ok, Err, refl, sym, ap, subst, inl, inr, ◌∙◌}
use Rattle.std.proofs.lemmas.List.{append-nil}
use Rattle.ipld_cid.specs.declared.error.CidError.{CidError}
use Rattle.ipld_cid.specs.Cid.{Link, IsValid}
use Rattle.ipld_cid.specs.Bytes.{IsCid, bytes_of, read_cid}
use Rattle.ipld_tokens.specs.Token.{TokenModel, bytes, link}
use Rattle.ipld_tokens.specs.Item.{Item, tokens_of, links_in}
use Rattle.ipld_tokens.specs.Fronts.{IsItem, IsOpen}
use Rattle.ipld_tokens.specs.LinkBytes.{read_link}
use Rattle.ipld_tokens.specs.ExtractMachine.{ExtractState, open_at, marked, done, rejected, step, run, start, IsGoing, IsElsewhere, IsLinkError}
use Rattle.ipld_tokens.specs.ExtractContract.{IsRejected, IsLinkBytes}
use Rattle.ipld_tokens.proofs.LinkReading.{read_from_encoding, encoding_of_read}
use Rattle.ipld_tokens.proofs.Runs.{run_append, run_rejected, over_whole}
use Rattle.ipld_tokens.proofs.Stands.{Stands, stands, going_open}

-- what is used of CIDs
pub record LinkLaws (S : ℕ) : Type 0 where
  pub reads : (b : List ℕ) (cid : Link) → IsCid S b cid → read_link S b ≡ Some cid
  pub encoded : (b : List ℕ) (cid : Link) → read_link S b ≡ Some cid → IsCid S b cid
  pub has_encoding : (cid : Link) → IsValid S cid → IsCid S (bytes_of cid) cid

pub link_laws : (S : ℕ)
    → ((b : List ℕ) (cid : Link) → IsCid S b cid → read_cid S b ≡ Ok cid)
    → ((cid : Link) → IsValid S cid → IsCid S (bytes_of cid) cid)
    → ((b : List ℕ) (cid : Link) → IsCid S b cid → IsValid S cid)
    → ((b : List ℕ) (cid : Link) → IsCid S b cid → b ≡ bytes_of cid)
    → LinkLaws S
link_laws S read each valid one = record {
  reads = λ b cid h. read_from_encoding S b cid (valid b cid h) (one b cid h) (read b cid h);
  encoded = λ b cid e. let p = encoding_of_read S b cid e in subst (λ x. IsCid S x cid) (sym p.1) (each cid p.0);
  has_encoding = each;
}

-- ---- fronts of one list

pub compare : (p q r u : List TokenModel) → p ++ r ≡ q ++ u
    → ((m : List TokenModel) × (q ≡ p ++ m) × (r ≡ m ++ u)) ⊎ ((m : List TokenModel) × (p ≡ q ++ m) × (u ≡ m ++ r))
compare [] q r u e = inl (q, refl, e)
compare (x ∷ p) [] r u e = inr (x ∷ p, refl, sym e)
compare (x ∷ p) (y ∷ q) r u e =
    let head : x ≡ y = cc in
    let tail : p ++ r ≡ q ++ u = cc in
    elim (compare p q r u tail) [
      | inl (m, a, b) ↦ inl (m, (ap (λ z. z ∷ q) (sym head) ∙ ap (λ l. x ∷ l) a), b)
      | inr (m, a, b) ↦ inr (m, (ap (λ z. z ∷ p) head ∙ ap (λ l. y ∷ l) a), b)
    ]

-- ---- from a state nothing leads back

after_done : (S : ℕ) (a b : List Link) (m : List TokenModel) → run S (done a) m ≡ done b → (m ≡ []) × (a ≡ b)
after_done S a b [] e = (refl, cc)
after_done S a b (t ∷ m) e = let f : rejected ≡ done b = sym (run_rejected S m) ∙ e in absurd cc

done_never_goes : (S : ℕ) (a : List Link) (m : List TokenModel) → IsGoing (run S (done a) m) → ⊥
done_never_goes S a [] g = g
done_never_goes S a (t ∷ m) g = subst IsGoing (run_rejected S m) g

rejected_never_goes : (S : ℕ) (m : List TokenModel) → IsGoing (run S rejected m) → ⊥
rejected_never_goes S m g = subst IsGoing (run_rejected S m) g

rejected_never_done : (S : ℕ) (a : List Link) (m : List TokenModel) → run S rejected m ≡ done a → ⊥
rejected_never_done S a m e = let f : rejected ≡ done a = sym (run_rejected S m) ∙ e in absurd cc

-- what goes on to an item is neither complete nor rejected
goes : (S : ℕ) (a : List Link) (s : ExtractState) (t : TokenModel) (m : List TokenModel) → run S s (t ∷ m) ≡ done a → IsGoing s
goes S a (open_at must keeps f fs out) t m e = tt
goes S a (marked keeps f fs out) t m e = tt
goes S a (done out) t m e = rejected_never_done S a m e
goes S a rejected t m e = rejected_never_done S a m e

-- ---- two runs over one list

pub done_done : (S : ℕ) (a b : List Link) (p q r u : List TokenModel) → p ++ r ≡ q ++ u → run S start p ≡ done a → run S start q ≡ done b → (a ≡ b) × (r ≡ u)
done_done S a b p q r u e h k =
    elim (compare p q r u e) [
      | inl (m, x, y) ↦
          let c = after_done S a b m (ap (λ s. run S s m) (sym h) ∙ sym (run_append S start p m) ∙ ap (run S start) (sym x) ∙ k) in
          (c.1, y ∙ ap (λ l. l ++ u) c.0)
      | inr (m, x, y) ↦
          let c = after_done S b a m (ap (λ s. run S s m) (sym k) ∙ sym (run_append S start q m) ∙ ap (run S start) (sym x) ∙ h) in
          (sym c.1, sym (y ∙ ap (λ l. l ++ r) c.0))
    ]

-- where a run goes on, a beginning of it is not complete
pub done_going : (S : ℕ) (a : List Link) (p m : List TokenModel) → run S start p ≡ done a → IsGoing (run S start (p ++ m)) → ⊥
done_going S a p m h g =
    done_never_goes S a m (subst IsGoing (run_append S start p m ∙ ap (λ s. run S s m) h) g)

pub rejected_going : (S : ℕ) (p : List TokenModel) (t : TokenModel) (m : List TokenModel) → step S (run S start p) t ≡ rejected → IsGoing (run S start (p ++ t ∷ m)) → ⊥
rejected_going S p t m h g =
    rejected_never_goes S m (subst IsGoing (run_append S start p (t ∷ m) ∙ ap (λ s. run S s m) h) g)

rejected_done : (S : ℕ) (a : List Link) (p : List TokenModel) (t : TokenModel) (m : List TokenModel) → step S (run S start p) t ≡ rejected → run S start (p ++ t ∷ m) ≡ done a → ⊥
rejected_done S a p t m h k =
    rejected_never_done S a m (ap (λ s. run S s m) (sym h) ∙ sym (run_append S start p (t ∷ m)) ∙ k)

done_after : (S : ℕ) (a : List Link) (p q r u : List TokenModel) (t : TokenModel) (m : List TokenModel) → p ≡ q ++ m → t ∷ u ≡ m ++ r → run S start p ≡ done a
    → IsGoing (run S start q) → step S (run S start q) t ≡ rejected → ⊥
done_after S a p q r u t [] x y h g k = done_going S a p [] h (subst (λ l. IsGoing (run S start l)) (sym (append-nil p ∙ x ∙ append-nil q)) g)
done_after S a p q r u t (v ∷ m) x y h g k =
    let same : v ≡ t = cc in
    rejected_done S a q t m k (ap (λ w. run S start (q ++ w ∷ m)) (sym same) ∙ ap (run S start) (sym x) ∙ h)

pub done_rejected : (S : ℕ) (a : List Link) (p q r u : List TokenModel) (t : TokenModel) → p ++ r ≡ q ++ t ∷ u → run S start p ≡ done a
    → IsGoing (run S start q) → step S (run S start q) t ≡ rejected → ⊥
done_rejected S a p q r u t e h g k =
    elim (compare p q r (t ∷ u) e) [
      | inl (m, x, y) ↦ done_going S a p m h (subst (λ l. IsGoing (run S start l)) x g)
      | inr (m, x, y) ↦ done_after S a p q r u t m x y h g k
    ]

again_rejected : (S : ℕ) (q r u : List TokenModel) (t v : TokenModel) (p m : List TokenModel) → p ≡ q ++ m → t ∷ u ≡ m ++ v ∷ r
    → step S (run S start q) t ≡ rejected → IsGoing (run S start p) → r ≡ u
again_rejected S q r u t v p [] x y k g = cc
again_rejected S q r u t v p (w ∷ m) x y k g =
    let same : w ≡ t = cc in
    absurd (rejected_going S q t m k (subst (λ l. IsGoing (run S start l)) (x ∙ ap (λ z. q ++ z ∷ m) same) g))

-- a list is rejected at one place
pub rejected_rejected : (S : ℕ) (p q r u : List TokenModel) (v t : TokenModel) → p ++ v ∷ r ≡ q ++ t ∷ u
    → IsGoing (run S start p) → step S (run S start p) v ≡ rejected → IsGoing (run S start q) → step S (run S start q) t ≡ rejected → r ≡ u
rejected_rejected S p q r u v t e g h i k =
    elim (compare p q (v ∷ r) (t ∷ u) e) [
      | inl (m, x, y) ↦ sym (again_rejected S p u r v t q m x y h i)
      | inr (m, x, y) ↦ again_rejected S q r u t v p m x y k g
    ]

-- ---- verdicts

module _ (S : ℕ) (laws : LinkLaws S) where
  pub whole : (i : Item S) → run S start (tokens_of i) ≡ done (links_in i)
  whole i = over_whole S laws.reads i

  pub done_item : (ts : List TokenModel) (out : List Link) → run S start ts ≡ done out → (i : Item S) × (tokens_of i ≡ ts) × (out ≡ links_in i)
  done_item ts out e =
      let h = subst (λ s. Stands S s ts) e (stands S laws.encoded ts) in
      let k : done out ≡ done (links_in h.0) = sym e ∙ ap (run S start) (sym h.1) ∙ whole h.0 in
      (h.0, h.1, cc)

  pub going_is_open : (ts : List TokenModel) → IsGoing (run S start ts) → IsOpen S ts
  going_is_open ts g = going_open S laws.has_encoding (run S start ts) ts g (stands S laws.encoded ts)

  pub open_is_going : (ts : List TokenModel) → IsOpen S ts → IsGoing (run S start ts)
  open_is_going ts (i, next, rest, e) =
      goes S (links_in i) (run S start ts) next rest (sym (run_append S start ts (next ∷ rest)) ∙ ap (run S start) (sym e) ∙ whole i)

  not_open : (p : List TokenModel) (t : TokenModel) → step S (run S start p) t ≡ rejected → IsOpen S (p ++ t ∷ []) → ⊥
  not_open p t h o = rejected_going S p t [] h (open_is_going (p ++ t ∷ []) o)

  not_item : (p : List TokenModel) (t : TokenModel) → step S (run S start p) t ≡ rejected → IsItem S (p ++ t ∷ []) → ⊥
  not_item p t h (i, e) = rejected_done S (links_in i) p t [] h (ap (run S start) (sym e) ∙ whole i)

  pub going_rejected : (p : List TokenModel) (t : TokenModel) → IsGoing (run S start p) → step S (run S start p) t ≡ rejected → IsRejected S p t
  going_rejected p t g h = (going_is_open p g, not_open p t h, not_item p t h)

  neither : (s : ExtractState) → (IsGoing s → ⊥) → ((out : List Link) → s ≡ done out → ⊥) → s ≡ rejected
  neither (open_at must keeps f fs out) g d = absurd (g tt)
  neither (marked keeps f fs out) g d = absurd (g tt)
  neither (done out) g d = absurd (d out refl)
  neither rejected g d = refl

  pub rejected_step : (p : List TokenModel) (t : TokenModel) → IsRejected S p t → step S (run S start p) t ≡ rejected
  rejected_step p t r =
      let joined = run_append S start p (t ∷ []) in
      neither (step S (run S start p) t)
      (λ g. r.1 (going_is_open (p ++ t ∷ []) (subst IsGoing (sym joined) g)))
      (λ out e. let i = done_item (p ++ t ∷ []) out (joined ∙ e) in r.2 (i.0, i.1))

  -- ---- bytes after a link mark

  marks : (s : ExtractState) (b : List ℕ) → IsGoing (step S s link) → IsElsewhere (step S s link) (bytes b) → ⊥
  marks (open_at must keeps f fs out) b g e = e
  marks (marked keeps f fs out) b g e = g
  marks (done out) b g e = g
  marks rejected b g e = g

  pub elsewhere : (p : List TokenModel) (t : TokenModel) → IsGoing (run S start p) → IsElsewhere (run S start p) t → IsLinkBytes p t → ⊥
  elsewhere p t g e (fore, b, x, y) =
      let r = ap (run S start) x ∙ run_append S start fore (link ∷ []) in
      marks (run S start fore) b (subst IsGoing r g) (subst (λ s. IsElsewhere s (bytes b)) r (subst (IsElsewhere (run S start p)) y e))

  marked_place : (s : ExtractState) (p : List TokenModel) (t : TokenModel) (cid_error : CidError) → Stands S s p → IsLinkError S s t cid_error
      → (fore : List TokenModel) × (b : List ℕ) × (p ≡ fore ++ link ∷ []) × (t ≡ bytes b) × (read_cid S b ≡ Err cid_error)
  marked_place (open_at must keeps f fs out) p t cid_error h e = absurd e
  marked_place (marked keeps f fs out) p (bytes b) cid_error (front, h, x) e = (front, b, x, refl, e)
  marked_place (marked keeps f fs out) p t cid_error h e = absurd e
  marked_place (done out) p t cid_error h e = absurd e
  marked_place rejected p t cid_error h e = absurd e

  pub link_position : (p : List TokenModel) (t : TokenModel) (cid_error : CidError) → IsLinkError S (run S start p) t cid_error
      → (fore : List TokenModel) × (b : List ℕ) × (p ≡ fore ++ link ∷ []) × (t ≡ bytes b) × (read_cid S b ≡ Err cid_error)
  link_position p t cid_error e = marked_place (run S start p) p t cid_error (stands S laws.encoded p) e
