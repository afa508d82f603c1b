-- Tokens written one after another, and what is left after some of them.
use Rattle.std.proofs.Common.{◌≡◌, ◌⊎◌, inl, inr, ℕ, ◌<◌, Bool, true, false, List, [], ◌∷◌, ◌++◌, length, Option, Some, None, Bor, refl, sym, ap, subst, ◌∙◌, append_assoc, length-append, arith}
use Rattle.std.specs.Prelude.{◌||◌}
use Rattle.std.proofs.lemmas.List.{append-nil}
use Rattle.std.specs.Str.{IsUtf8}
use Rattle.ipld_tree.specs.Tree.{Tree, list}
use Rattle.ipld_tree.specs.TreeOf.{tree_of, items_of}
use Rattle.ipld_tree.specs.Walk.{preorder, items_preorder}
use Rattle.ipld_tree.specs.declared.ipld.Ipld.{Ipld}
use Rattle.json.specs.Token.{Token, begin_array, begin_object}
use Rattle.json.specs.Print.{print}
use Rattle.json.specs.Tree.{json_tokens, items_tokens}
use Rattle.json.specs.Written.{Written}
use Rattle.dag_json.specs.Form.{text_of, json_of, items_json, Wrote}
use Rattle.dag_json.specs.Reserved.{is_reserved, any_reserved, has_reserved}
use Rattle.dag_json.specs.declared.encode.JsonCursor.{JsonCursor}
use Rattle.dag_json.specs.declared.encode.Stop.{Stop}
use Rattle.dag_json.specs.declared.encode.Stop.TheVariants.{Memory, Reserved}
use Rattle.dag_json.proofs.Writing.{Wrote-trans, all_written, all_printed}
use Rattle.dag_json.specs.Cursors.{tokens_of, trees_of, all_of, all_tokens, all_trees, tokens_left, trees_left, load, Advances, Begins, Opens, Goes, StepOf}

-- ---- what is left

pub all_of-append : {A : Type 0} (f : JsonCursor → List A) (cs ds : List JsonCursor) → all_of f (cs ++ ds) ≡ all_of f ds ++ all_of f cs
all_of-append f [] ds = sym (append-nil (all_of f ds))
all_of-append f (c ∷ cs) ds = ap (λ ts. ts ++ f c) (all_of-append f cs ds) ∙ append_assoc (all_of f ds) (all_of f cs) (f c)

pub all_of-push : {A : Type 0} (f : JsonCursor → List A) (cs : List JsonCursor) (c : JsonCursor) → all_of f (cs ++ c ∷ []) ≡ f c ++ all_of f cs
all_of-push f cs c = all_of-append f cs (c ∷ [])

or_assoc : (a b c : Bool) → ((a || b) || c) ≡ (a || (b || c))
or_assoc true b c = refl
or_assoc false b c = refl

pub any_reserved-append : (ts us : List Tree) → any_reserved (ts ++ us) ≡ (any_reserved ts || any_reserved us)
any_reserved-append [] us = refl
any_reserved-append (t ∷ ts) us = ap (λ b. is_reserved t || b) (any_reserved-append ts us) ∙ sym (or_assoc (is_reserved t) (any_reserved ts) (any_reserved us))

-- ---- lists and maps begin

opens : (t : Tree) (inner innermost kept : JsonCursor) (outer more : List JsonCursor) (old new : Written) → Begins t old (inner ∷ []) new → innermost ≡ inner → more ≡ outer ++ kept ∷ []
    → Opens t kept outer old innermost more new
opens t inner innermost kept outer more old new b i m = record {
  cursors = inner ∷ [];
  inside = ap (λ (cs : List JsonCursor). cs ++ innermost ∷ []) m ∙ ap (λ c. (outer ++ kept ∷ []) ++ c ∷ []) i;
  begins = b;
}

pub list_opens : (xs : List Ipld) (inner innermost kept : JsonCursor) (outer more : List JsonCursor) (old new : Written)
    → tokens_of inner ≡ items_tokens (items_json (items_of xs)) → trees_of inner ≡ items_preorder (items_of xs)
    → Wrote old new (begin_array ∷ []) → innermost ≡ inner → more ≡ outer ++ kept ∷ [] → Opens (list (items_of xs)) kept outer old innermost more new
list_opens xs inner innermost kept outer more old new e f w i m =
    opens (list (items_of xs)) inner innermost kept outer more old new
    (record { front = begin_array ∷ []; wrote = w; tokens = ap (λ ts. begin_array ∷ ts) (sym e); reserved = ap any_reserved (sym f); shrinks = omega arith }) i m

pub map_opens : (t : Tree) (inner innermost kept : JsonCursor) (outer more : List JsonCursor) (old new : Written)
    → json_tokens (json_of t) ≡ begin_object ∷ tokens_of inner → preorder t ≡ t ∷ trees_of inner → is_reserved t ≡ false
    → Wrote old new (begin_object ∷ []) → innermost ≡ inner → more ≡ outer ++ kept ∷ [] → Opens t kept outer old innermost more new
map_opens t inner innermost kept outer more old new e f none w i m =
    opens t inner innermost kept outer more old new
    (record {
      front = begin_object ∷ [];
      wrote = w;
      tokens = e;
      reserved = ap any_reserved f ∙ ap (λ b. b || any_reserved (trees_of inner)) none;
      shrinks = omega arith;
    }) i m

-- another value was written whole
pub opens_none : (t : Tree) (innermost : JsonCursor) (outer : List JsonCursor) (old new : Written) → Wrote old new (json_tokens (json_of t)) → 0 < length (json_tokens (json_of t)) → has_reserved t ≡ false
    → Opens t innermost outer old innermost outer new
opens_none t innermost outer old new w some none = record {
  cursors = [];
  inside = sym (append-nil (outer ++ innermost ∷ []));
  begins = record { front = json_tokens (json_of t); wrote = w; tokens = sym (append-nil (json_tokens (json_of t))); reserved = none; shrinks = omega arith };
}

-- ---- one iteration

-- a cursor that has ended was dropped
pub left_one : (o : Option (Bor Ipld)) (ended after c : JsonCursor) (outer rest : List JsonCursor) (old new : Written) → o ≡ None → Advances ended old o after new → outer ≡ rest ++ c ∷ []
    → Goes (tokens_left ended outer) (trees_left ended outer) old (tokens_left c rest) (trees_left c rest) new × (load c rest < load ended outer)
left_one o ended after c outer rest old new none a e =
    let done : Wrote old new (tokens_of ended) × (trees_of ended ≡ []) = subst (λ p. Advances ended old p after new) none a in
    let tokens : tokens_left ended outer ≡ tokens_of ended ++ tokens_left c rest = ap (λ ts. tokens_of ended ++ ts) (ap all_tokens e ∙ all_of-push tokens_of rest c) in
    let trees : trees_left ended outer ≡ trees_left c rest = ap (λ ts. ts ++ all_trees outer) done.1 ∙ ap all_trees e ∙ all_of-push trees_of rest c in
    let long = ap length tokens ∙ length-append (tokens_of ended) (tokens_left c rest) in
    let count = ap length e ∙ length-append rest (c ∷ []) in
    (record { front = tokens_of ended; wrote = done.0; same = tokens; reserved = ap any_reserved trees }, omega arith)

regroup : (a b c d e : List Token) → (a ++ ((b ++ c) ++ d)) ++ e ≡ (a ++ b) ++ (c ++ (d ++ e))
regroup a b c d e =
    append_assoc a ((b ++ c) ++ d) e ∙ ap (λ ts. a ++ ts) (append_assoc (b ++ c) d e ∙ append_assoc b c (d ++ e)) ∙ sym (append_assoc a b (c ++ (d ++ e)))

any_three : (ts us vs : List Tree) → any_reserved ((ts ++ us) ++ vs) ≡ (any_reserved ts || any_reserved (us ++ vs))
any_three ts us vs = ap any_reserved (append_assoc ts us vs) ∙ any_reserved-append ts (us ++ vs)

held : {A : Type 0} (f : JsonCursor → List A) (inner outer more : List JsonCursor) (kept innermost : JsonCursor) → more ++ innermost ∷ [] ≡ (outer ++ kept ∷ []) ++ inner
    → all_of f inner ++ (f kept ++ all_of f outer) ≡ f innermost ++ all_of f more
held f inner outer more kept innermost e =
    ap (λ ts. all_of f inner ++ ts) (sym (all_of-push f outer kept)) ∙ sym (all_of-append f (outer ++ kept ∷ []) inner) ∙ ap (all_of f) (sym e) ∙ all_of-push f more innermost

-- a value was written, or its beginning
pub entered : (o : Option (Bor Ipld)) (x : Bor Ipld) (before kept innermost : JsonCursor) (outer more : List JsonCursor) (old middle new : Written)
    → o ≡ Some x → Advances before old o kept middle → Opens (tree_of x.now) kept outer middle innermost more new
    → Goes (tokens_left before outer) (trees_left before outer) old (tokens_left innermost more) (trees_left innermost more) new × (load innermost more < load before outer)
entered o x before kept innermost outer more old middle new some a b =
    let next = subst (λ q. Advances before old q kept middle) some a in
    let t = tree_of x.now in
    let begun = b.begins in
    let inner = b.cursors in
    let tokens : tokens_left before outer ≡ (next.0 ++ begun.front) ++ tokens_left innermost more =
    ap (λ ts. ts ++ all_tokens outer) (next.2 ∙ ap (λ ts. next.0 ++ (ts ++ tokens_of kept)) begun.tokens)
    ∙ regroup next.0 begun.front (all_tokens inner) (tokens_of kept) (all_tokens outer)
    ∙ ap (λ ts. (next.0 ++ begun.front) ++ ts) (held tokens_of inner outer more kept innermost b.inside) in
    let trees : any_reserved (trees_left before outer) ≡ any_reserved (trees_left innermost more) =
    ap (λ ts. any_reserved (ts ++ all_trees outer)) next.3 ∙ any_three (preorder t) (trees_of kept) (all_trees outer)
    ∙ ap (λ c. c || any_reserved (trees_of kept ++ all_trees outer)) begun.reserved
    ∙ sym (any_reserved-append (all_trees inner) (trees_of kept ++ all_trees outer)) ∙ ap any_reserved (held trees_of inner outer more kept innermost b.inside) in
    let long = ap length tokens ∙ length-append (next.0 ++ begun.front) (tokens_left innermost more) in
    let front = length-append next.0 begun.front in
    let count = sym (length-append more (innermost ∷ [])) ∙ ap length b.inside ∙ length-append (outer ++ kept ∷ []) inner in
    let around = length-append outer (kept ∷ []) in
    let shrinks = begun.shrinks in
    (record { front = next.0 ++ begun.front; wrote = Wrote-trans old middle new next.0 begun.front next.1 begun.wrote; same = tokens; reserved = trees }, omega arith)

-- the next value has a reserved map
pub next_reserved : (o : Option (Bor Ipld)) (x : Bor Ipld) (before after : JsonCursor) (outer : List JsonCursor) (old new : Written) → o ≡ Some x → Advances before old o after new
    → has_reserved (tree_of x.now) ≡ true → any_reserved (trees_left before outer) ≡ true
next_reserved o x before after outer old new some a h =
    let next = subst (λ q. Advances before old q after new) some a in
    ap (λ ts. any_reserved (ts ++ all_trees outer)) next.3 ∙ any_three (preorder (tree_of x.now)) (trees_of after) (all_trees outer)
    ∙ ap (λ b. b || any_reserved (trees_of after ++ all_trees outer)) h

-- why a value wasn't written
pub why : (stop : Stop) (b c : Bool) → (b ≡ true → c ≡ true) → (stop ≡ Memory) ⊎ ((stop ≡ Reserved) × (b ≡ true)) → (stop ≡ Memory) ⊎ ((stop ≡ Reserved) × (c ≡ true))
why stop b c h (inl memory) = inl memory
why stop b c h (inr found) = inr (found.0, h found.1)

-- ---- a whole tree

-- the loop went on
pub went_on : (b : Bool) (ts : List Token) (us : List Tree) (old middle new : Written) (c d : JsonCursor) (cs ds : List JsonCursor) → Goes ts us old (tokens_left c cs) (trees_left c cs) middle → b ≡ true
    → StepOf b c cs middle d ds new → Goes ts us old (tokens_left d ds) (trees_left d ds) new
went_on b ts us old middle new c d cs ds g e s =
    let h = (subst (λ a. StepOf a c cs middle d ds new) e s).0 in
    record {
      front = g.front ++ h.front;
      wrote = Wrote-trans old middle new g.front h.front g.wrote h.wrote;
      same = g.same ∙ ap (λ more. g.front ++ more) h.same ∙ sym (append_assoc g.front h.front (tokens_left d ds));
      reserved = g.reserved ∙ h.reserved;
    }

-- the loop ended
pub came_to_end : (b : Bool) (ts : List Token) (us : List Tree) (old middle new : Written) (c d : JsonCursor) (cs ds : List JsonCursor) → Goes ts us old (tokens_left c cs) (trees_left c cs) middle → b ≡ false
    → StepOf b c cs middle d ds new → Wrote old new ts × (any_reserved us ≡ false)
came_to_end b ts us old middle new c d cs ds g e s =
    let ended : Wrote middle new (tokens_left c cs) × (trees_left c cs ≡ []) = subst (λ a. StepOf a c cs middle d ds new) e s in
    (subst (Wrote old new) (sym g.same) (Wrote-trans old middle new g.front (tokens_left c cs) g.wrote ended.0), g.reserved ∙ ap any_reserved ended.1)

-- the text stands behind what was there
pub text_written : (out result : List ℕ) (t : Tree) (old new : Written) → Wrote old new (json_tokens (json_of t)) → old.before ≡ out → old.tokens ≡ [] → result ≡ new.before ++ print new.tokens
    → result ≡ out ++ text_of t
unfolding text_of
text_written out result t old new w before none e = all_printed out result (json_tokens (json_of t)) old new w before none e

pub text_utf8 : (t : Tree) (old new : Written) → Wrote old new (json_tokens (json_of t)) → old.tokens ≡ [] → IsUtf8 (print new.tokens) → IsUtf8 (text_of t)
unfolding text_of
text_utf8 t old new w none is = subst (λ ts. IsUtf8 (print ts)) (all_written (json_tokens (json_of t)) old new w none) is
