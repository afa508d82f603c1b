-- Parts written one after another, and what is left after some of them.
use Rattle.std.proofs.Common.{◌≡◌, ℕ, ◌+◌, ◌<◌, Bool, true, false, List, [], ◌∷◌, ◌++◌, length, Option, Some, None, Bor, refl, sym, ap, subst, ◌∙◌, append_assoc, length-append, arith}
use Rattle.std.specs.Prelude.{◌&&◌}
use Rattle.std.proofs.lemmas.List.{append-nil}
use Rattle.ipld_tree.specs.Tree.{Tree}
use Rattle.ipld_tree.specs.TreeOf.{tree_of}
use Rattle.ipld_tree.specs.declared.ipld.Ipld.{Ipld}
use Rattle.dag_cbor_format.specs.Canonical.{canonical, joined}
use Rattle.dag_cbor_format.specs.Range.{in_range}
use Rattle.dag_cbor.specs.declared.encode.EncodeCursor.{EncodeCursor}
use Rattle.dag_cbor_format.specs.Writing.{Adds}
use Rattle.dag_cbor.specs.Cursors.{Pending, of_item, left_of, pending, written, within, load, load_of, all_left, Begins, Opens, Goes, Advances, StepOf}

-- ---- parts

pub joined_none : (o : Option (List ℕ)) → joined o None ≡ None
joined_none None = refl
joined_none (Some a) = refl

pub joined_empty : (o : Option (List ℕ)) → joined (Some []) o ≡ o
joined_empty None = refl
joined_empty (Some a) = refl

joined_nil : (o : Option (List ℕ)) → joined o (Some []) ≡ o
joined_nil None = refl
joined_nil (Some a) = ap Some (append-nil a)

joined_assoc : (o p q : Option (List ℕ)) → joined (joined o p) q ≡ joined o (joined p q)
joined_assoc None p q = refl
joined_assoc (Some a) None q = refl
joined_assoc (Some a) (Some b) None = refl
joined_assoc (Some a) (Some b) (Some c) = ap Some (append_assoc a b c)

-- ---- what is left, and more after it

written-append : (ps qs : List Pending) → written (ps ++ qs) ≡ joined (written ps) (written qs)
written-append [] qs = sym (joined_empty (written qs))
written-append (p ∷ ps) qs =
    let o = joined p.0 (canonical (tree_of p.1)) in
    ap (joined o) (written-append ps qs) ∙ sym (joined_assoc o (written ps) (written qs))

and_assoc : (a b c : Bool) → ((a && b) && c) ≡ (a && (b && c))
and_assoc true b c = refl
and_assoc false b c = refl

within-append : (ps qs : List Pending) → within (ps ++ qs) ≡ (within ps && within qs)
within-append [] qs = refl
within-append (p ∷ ps) qs =
    ap (λ b. in_range (tree_of p.1) && b) (within-append ps qs) ∙ sym (and_assoc (in_range (tree_of p.1)) (within ps) (within qs))

load-append : (ps qs : List Pending) → load_of (ps ++ qs) ≡ load_of ps + load_of qs
load-append [] qs = omega arith
load-append (p ∷ ps) qs = let more = load-append ps qs in omega arith

pub pending-push : (cs : List EncodeCursor) (c : EncodeCursor) → pending (cs ++ c ∷ []) ≡ left_of c ++ pending cs
pending-push [] c = sym (append-nil (left_of c))
pending-push (d ∷ cs) c = ap (λ ps. ps ++ left_of d) (pending-push cs c) ∙ append_assoc (left_of c) (pending cs) (left_of d)

pending-append : (cs ds : List EncodeCursor) → pending (cs ++ ds) ≡ pending ds ++ pending cs
pending-append [] ds = sym (append-nil (pending ds))
pending-append (c ∷ cs) ds = ap (λ ps. ps ++ left_of c) (pending-append cs ds) ∙ append_assoc (pending ds) (pending cs) (left_of c)

-- ---- going on

pub goes_on : (ps qs : List Pending) (start end : List ℕ) → ps ≡ qs → end ≡ start → Goes ps start qs end
goes_on ps qs start end e f = record {
  bytes = [];
  appended = f ∙ sym (append-nil start);
  same = ap written e ∙ sym (joined_empty (written qs));
  range = ap within e;
}

pub goes_further : (ps qs rs : List Pending) (start middle end : List ℕ) → Goes ps start qs middle → Goes qs middle rs end → Goes ps start rs end
goes_further ps qs rs start middle end g h = record {
  bytes = g.bytes ++ h.bytes;
  appended = h.appended ∙ ap (λ xs. xs ++ h.bytes) g.appended ∙ append_assoc start g.bytes h.bytes;
  same = g.same ∙ ap (joined (Some g.bytes)) h.same ∙ sym (joined_assoc (Some g.bytes) (Some h.bytes) (written rs));
  range = g.range ∙ h.range;
}

-- the next value was written, or its beginning
pub value_goes : (ps after rest : List Pending) (o : Option (List ℕ)) (x : Ipld) (cs : List EncodeCursor) (start middle end : List ℕ) → ps ≡ (o, x) ∷ after → Adds o start middle
    → Begins (tree_of x) middle cs end → Goes (ps ++ rest) start (pending cs ++ (after ++ rest)) end
value_goes ps after rest o x cs start middle end e key b =
    let more = after ++ rest in
    let t = tree_of x in
    record {
      bytes = key.bytes ++ b.bytes;
      appended = b.appended ∙ ap (λ xs. xs ++ b.bytes) key.appended ∙ append_assoc start key.bytes b.bytes;
      same = ap (λ qs. written (qs ++ rest)) e ∙ ap (λ p. joined (joined p (canonical t)) (written more)) key.is
          ∙ ap (λ p. joined (joined (Some key.bytes) p) (written more)) b.same
          ∙ ap (λ p. joined p (written more)) (sym (joined_assoc (Some key.bytes) (Some b.bytes) (written (pending cs))))
          ∙ joined_assoc (Some (key.bytes ++ b.bytes)) (written (pending cs)) (written more)
          ∙ ap (joined (Some (key.bytes ++ b.bytes))) (sym (written-append (pending cs) more));
      range = ap (λ qs. within (qs ++ rest)) e ∙ ap (λ c. c && within more) b.range ∙ sym (within-append (pending cs) more);
    }

pub value_shrinks : (ps after rest : List Pending) (o : Option (List ℕ)) (x : Ipld) (cs : List EncodeCursor) (start end : List ℕ) → ps ≡ (o, x) ∷ after
    → Begins (tree_of x) start cs end → load_of (pending cs ++ (after ++ rest)) + length cs < load_of (ps ++ rest)
value_shrinks ps after rest o x cs start end e b =
    let left : load_of (ps ++ rest) ≡ load (tree_of x) + load_of (after ++ rest) = ap (λ qs. load_of (qs ++ rest)) e in
    let right = load-append (pending cs) (after ++ rest) in
    let shrinks = b.shrinks in
    omega arith

-- ---- one iteration

-- a cursor that has ended was dropped
pub left_one : (o : Option (Bor Ipld)) (before after : List Pending) (start end : List ℕ) (outer rest : List EncodeCursor) (c : EncodeCursor) → o ≡ None
    → Advances before start o after end → outer ≡ rest ++ c ∷ []
    → Goes (before ++ pending outer) start (left_of c ++ pending rest) end
    × (load_of (left_of c ++ pending rest) + length rest < load_of (before ++ pending outer) + length outer)
left_one o before after start end outer rest c none a e =
    let ended : (before ≡ []) × (end ≡ start) = subst (λ p. Advances before start p after end) none a in
    let same : before ++ pending outer ≡ left_of c ++ pending rest = ap (λ ps. ps ++ pending outer) ended.0 ∙ ap pending e ∙ pending-push rest c in
    let load = ap load_of same in
    let count = ap length e ∙ length-append rest (c ∷ []) in
    (goes_on (before ++ pending outer) (left_of c ++ pending rest) start end same ended.1, omega arith)

-- a list or a map was opened
pub opens : (t : Tree) (inner innermost kept : EncodeCursor) (outer more : List EncodeCursor) (start end : List ℕ) → Begins t start (inner ∷ []) end → innermost ≡ inner → more ≡ outer ++ kept ∷ []
    → Opens t kept outer start innermost more end
opens t inner innermost kept outer more start end b i m = record {
  cursors = inner ∷ [];
  inside = ap (λ (cs : List EncodeCursor). cs ++ innermost ∷ []) m ∙ ap (λ c. (outer ++ kept ∷ []) ++ c ∷ []) i;
  begins = b;
}

-- another value was written whole
pub opens_none : (t : Tree) (innermost : EncodeCursor) (outer : List EncodeCursor) (start end : List ℕ) → Begins t start [] end → Opens t innermost outer start innermost outer end
opens_none t innermost outer start end b = record {
  cursors = [];
  inside = sym (append-nil (outer ++ innermost ∷ []));
  begins = b;
}

-- a value was written, or its beginning
pub entered : (o : Option (Bor Ipld)) (x : Bor Ipld) (before : List Pending) (start middle end : List ℕ) (innermost kept : EncodeCursor) (outer more : List EncodeCursor)
    → o ≡ Some x → Advances before start o (left_of kept) middle → Opens (tree_of x.now) kept outer middle innermost more end
    → Goes (before ++ pending outer) start (left_of innermost ++ pending more) end
    × (load_of (left_of innermost ++ pending more) + length more < load_of (before ++ pending outer) + length outer)
entered o x before start middle end innermost kept outer more some a b =
    let after = left_of kept in
    let next = subst (λ q. Advances before start q after middle) some a in
    let same : pending b.cursors ++ (after ++ pending outer) ≡ left_of innermost ++ pending more =
    ap (λ ps. pending b.cursors ++ ps) (sym (pending-push outer kept)) ∙ sym (pending-append (outer ++ kept ∷ []) b.cursors) ∙ ap pending (sym b.inside) ∙ pending-push more innermost in
    let shrinks = value_shrinks before after (pending outer) next.0 x.now b.cursors middle end next.1 b.begins in
    let load = ap load_of same in
    let count = sym (length-append more (innermost ∷ [])) ∙ ap length b.inside ∙ length-append (outer ++ kept ∷ []) b.cursors in
    let around = length-append outer (kept ∷ []) in (
      subst (λ ps. Goes (before ++ pending outer) start ps end) same
          (value_goes before after (pending outer) next.0 x.now b.cursors start middle end next.1 next.2 b.begins),
      omega arith,
    )

-- the loop went on
pub went_on : (b : Bool) (ps : List Pending) (start middle end : List ℕ) (c d : EncodeCursor) (cs ds : List EncodeCursor) → Goes ps start (all_left c cs) middle → b ≡ true → StepOf b c cs middle d ds end
    → Goes ps start (all_left d ds) end
went_on b ps start middle end c d cs ds g e s =
    goes_further ps (all_left c cs) (all_left d ds) start middle end g (subst (λ a. StepOf a c cs middle d ds end) e s).0

-- ---- a whole tree

and_true : (b : Bool) → (b && true) ≡ b
and_true true = refl
and_true false = refl

-- a cursor inside no others
pub alone : (x : Ipld) (c : EncodeCursor) (cs : List EncodeCursor) → left_of c ≡ of_item x ∷ [] → cs ≡ [] → all_left c cs ≡ of_item x ∷ []
alone x c cs e none = ap (all_left c) none ∙ append-nil (left_of c) ∙ e

-- the loop ended
pub came_to_end : (b : Bool) (start end : List ℕ) (c d : EncodeCursor) (cs ds : List EncodeCursor) → b ≡ false → StepOf b c cs start d ds end → (all_left c cs ≡ []) × (end ≡ start)
came_to_end b start end c d cs ds e s = subst (λ a. StepOf a c cs start d ds end) e s

-- nothing is left of it
pub tree_written : (x : Ipld) (ps qs : List Pending) (start middle end : List ℕ) → ps ≡ of_item x ∷ [] → Goes ps start qs middle → qs ≡ [] → end ≡ middle
    → Adds (canonical (tree_of x)) start end
tree_written x ps qs start middle end one g none e =
    let t = canonical (tree_of x) in
    record {
      bytes = g.bytes;
      is = sym (joined_nil (joined (Some []) t) ∙ joined_empty t) ∙ ap written (sym one) ∙ g.same ∙ ap (λ rs. joined (Some g.bytes) (written rs)) none ∙ joined_nil (Some g.bytes);
      appended = e ∙ g.appended;
    }

pub tree_within : (x : Ipld) (ps qs : List Pending) (start middle : List ℕ) → ps ≡ of_item x ∷ [] → Goes ps start qs middle → in_range (tree_of x) ≡ within qs
tree_within x ps qs start middle one g = sym (and_true (in_range (tree_of x))) ∙ ap within (sym one) ∙ g.range
