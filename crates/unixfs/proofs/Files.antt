-- Files: a walk to the end took what the root names, and a CID names one content.
use Rattle.std.proofs.Common.{◌≡◌, ℕ, zero, suc, ◌+◌, ◌-◌, ◌≤◌, List, [], ◌∷◌, ◌++◌, length, Option, Some, None, inl, inr, refl, sym, ap, subst, ◌∙◌, arith, append_assoc, length-append, length-drop}
use Rattle.std.specs.Prelude.{◌⊎◌, ◌≢◌, take, drop, sum, unwrap_or, option_map}
use Rattle.std.proofs.lemmas.List.{append-nil}
use Rattle.std.proofs.lemmas.Bool.{cases_eq}
use Rattle.std.proofs.lemmas.List.Sums.{sum_by-cons}
use Rattle.std.proofs.lemmas.Option.{same_Some, none-some}
use Rattle.ipld_cid.specs.Cid.{Link}
use Rattle.dag_pb.specs.Node.{LinkParts, NodeParts, IsNode}
use Rattle.unixfs.specs.Data.{DataParts, IsData}
use Rattle.unixfs.specs.Nodes.{IsParsed}
use Rattle.unixfs.specs.Files.{Hashing, IsBlockOf, Collision, Child, whole, HasSize, children_of, IsFileOf, IsPart, Names, names, NamesAll, no_child, one_child, Range, everything, at_most, slice, past, IsOutside, Walks, starts, takes, skips, Untaken}

-- ---- sizes

-- the children of links have as many bytes as the sizes say
sized : (h : Hashing) (links : List LinkParts) (sizes rest : List ℕ) → length links ≡ length sizes → NamesAll h (children_of links sizes) rest → length rest ≡ sum sizes
sized h [] [] rest same (no_child e) = ap length e
sized h [] (n ∷ ns) rest same all = absurd (omega arith)
sized h (l ∷ ls) [] rest same all = absurd (omega arith)
sized h (l ∷ ls) (n ∷ ns) rest same (one_child first others named size all e) =
    let tail = sized h ls ns others (omega arith) all in
    omega (arith, ap length e, length-append first others, size, sum_by-cons (λ (x : ℕ). x) n ns)

part_size : (h : Hashing) (link : Link) (head : List ℕ) (children : List Child) (size : ℕ) (rest : List ℕ) → IsPart h link head children size → NamesAll h children rest → size ≡ length (head ++ rest)
part_size h link head children size rest (inl raw) all =
    let none : length rest ≡ 0 = sized h [] [] rest refl (subst (λ (cs : List Child). NamesAll h cs rest) raw.no_children all) in
    omega (arith, raw.is_size, length-append head rest)
part_size h link head children size rest (inr file) all =
    let is = file.is_file in
    let all_sized = sized h file.links file.parts.blocksizes rest is.same_number (subst (λ (cs : List Child). NamesAll h cs rest) is.are_children all) in
    omega (arith, is.is_size, length-append head rest)

-- ---- a walk

-- the first children, and then the others
split : (h : Hashing) (children others : List Child) (rest : List ℕ) → NamesAll h (children ++ others) rest
    → (a : List ℕ) × (b : List ℕ) × NamesAll h children a × NamesAll h others b × (rest ≡ a ++ b)
split h [] others rest all = ([], rest, no_child refl, all, refl)
split h (child ∷ children) others rest (one_child first more named size all e) =
    let tail = split h children others more all in
    (first ++ tail.0, tail.1, one_child first tail.0 named size tail.2 refl, tail.3, e ∙ ap (λ (x : List ℕ). first ++ x) tail.4 ∙ sym (append_assoc first tail.0 tail.1))

same_size : (o : Option ℕ) (size n : ℕ) → HasSize o size → size ≡ n → HasSize o n
same_size None size n has is = tt
same_size (Some m) size n has is = has ∙ is

regrouped : (before head a b : List ℕ) → (before ++ head) ++ (a ++ b) ≡ before ++ ((head ++ a) ++ b)
regrouped before head a b = simp append_assoc

-- what the root alone names
only_root : (h : Hashing) (root : Link) (rest : List ℕ) → NamesAll h (whole root ∷ []) rest → Names h root rest
only_root h root rest (one_child first others named size (no_child none) e) =
    subst (λ (x : List ℕ). Names h root x) (sym (e ∙ ap (λ (x : List ℕ). first ++ x) none ∙ append-nil first)) named

-- all is left of everything
everything_left : (h : Hashing) (root : Link) (range : Range) (taken : List ℕ) (remain : List Child) (left : Range) → range ≡ everything → Walks h root range taken remain left → left ≡ everything
everything_left h root range taken remain left all (starts none is same) = same ∙ all
everything_left h root range taken remain left all (takes before next others was head children size walk part has taken_is remain_is left_is) =
    left_is ∙ ap (λ (r : Range). past (length head) r) (everything_left h root range before (next ∷ others) was all walk) ∙ ap (λ (n : ℕ). record { start = n; count = None }) (omega arith)
everything_left h root range taken remain left all (skips next was size walk sized outside left_is) =
    left_is ∙ ap (λ (r : Range). past size r) (everything_left h root range taken (next ∷ remain) was all walk) ∙ ap (λ (n : ℕ). record { start = n; count = None }) (omega arith)

none_outside : (size : ℕ) → IsOutside size everything → ⊥
none_outside size (inl early) = absurd (omega (arith, early.0))
none_outside size (inr empty) = none-some 0 empty

pub walked : (h : Hashing) (root : Link) (range : Range) (taken rest : List ℕ) (remain : List Child) (left : Range) → range ≡ everything → Walks h root range taken remain left → NamesAll h remain rest → Names h root (taken ++ rest)
walked h root range taken rest remain left whole_range (starts none is same) all =
    subst (λ (x : List ℕ). Names h root (x ++ rest)) (sym none) (only_root h root rest (subst (λ (cs : List Child). NamesAll h cs rest) is all))
walked h root range taken rest remain left whole_range (takes before next others was head children size walk part has taken_is remain_is left_is) all =
    let parts = split h children others rest (subst (λ (cs : List Child). NamesAll h cs rest) remain_is all) in
    let here : Names h next.link (head ++ parts.0) = names head children size parts.0 part parts.2 refl in
    let long = part_size h next.link head children size parts.0 part parts.2 in
    let back = walked h root range before ((head ++ parts.0) ++ parts.1) (next ∷ others) was whole_range walk
    (one_child (head ++ parts.0) parts.1 here (same_size next.size size (length (head ++ parts.0)) has long) parts.3 refl) in
    let taken_head : taken ≡ before ++ head = taken_is ∙ ap (λ (r : Range). before ++ slice r head) (everything_left h root range before (next ∷ others) was whole_range walk) in
    subst (λ (x : List ℕ). Names h root x) (sym (ap (λ (x : List ℕ). x ++ rest) taken_head ∙ ap (λ (x : List ℕ). (before ++ head) ++ x) parts.4 ∙ regrouped before head parts.0 parts.1)) back
walked h root range taken rest remain left whole_range (skips next was size walk sized outside left_is) all =
    absurd (none_outside size (subst (λ (r : Range). IsOutside size r) (everything_left h root range taken (next ∷ remain) was whole_range walk) outside))

-- ---- one content

-- what holds of all hash functions and blocks, if one of two things does
either : {A B C : Type 0} → A ⊎ C → (A → B ⊎ C) → B ⊎ C
either (inl a) f = f a
either (inr c) f = inr c

codecs : (codec : ℕ) → codec ≡ 0x55 → codec ≡ 0x70 → ⊥
codecs codec raw dag_pb = omega arith

-- bytes are equal or not
same_bytes : (a b : List ℕ) → (a ≡ b) ⊎ (a ≢ b)
same_bytes [] [] = inl refl
same_bytes [] (y ∷ b) = inr (λ e. absurd cc)
same_bytes (x ∷ a) [] = inr (λ e. absurd cc)
same_bytes (x ∷ a) (y ∷ b) =
    elim (cases_eq x y) [
      | inl same ↦
          elim (same_bytes a b) [
            | inl rests ↦ inl (ap (λ (n : ℕ). n ∷ a) same ∙ ap (λ (r : List ℕ). y ∷ r) rests)
            | inr others ↦ inr (λ e. let tails : a ≡ b = cc in others tails)
          ]
      | inr other ↦ inr (λ e. let heads : x ≡ y = cc in other heads)
    ]

-- two blocks of a CID are one, or a collision
one_block : (h : Hashing) (link : Link) (a b : List ℕ) → IsBlockOf h link a → IsBlockOf h link b → (a ≡ b) ⊎ Collision h
one_block h link a b has has_too =
    elim (same_bytes a b) [
      | inl same ↦ inl same
      | inr differ ↦ inr (record { code = link.code; digest = link.digest; block = a; other = b; differ = differ; has = has; has_too = has_too })
    ]

-- bytes are at most one node, and at most one message
abbrev pub OneNode : Type 0
OneNode = (bytes : List ℕ) (node other : NodeParts) → IsNode node bytes → IsNode other bytes → node ≡ other

abbrev pub OneMessage : Type 0
OneMessage = (bytes : List ℕ) (d other : DataParts) → IsData d bytes → IsData other bytes → d ≡ other

abbrev pub OneParse : Type 0
OneParse = (block : List ℕ) (links others : List LinkParts) (message other : DataParts) → IsParsed block links message → IsParsed block others other → (links ≡ others) × (message ≡ other)

record SamePart (head head' : List ℕ) (children children' : List Child) : Type 0 where
  heads : head ≡ head'
  kids : children ≡ children'

pub parsed_once : OneNode → OneMessage → OneParse
parsed_once one_node one_message block links links' parts parts' p q =
    let node = one_node block p.node q.node p.is_node q.is_node in
    let message : p.message ≡ q.message = same_Some p.message q.message (sym p.has_message ∙ ap (λ (n : NodeParts). n.content) node ∙ q.has_message) in
    (p.are_links ∙ ap (λ (n : NodeParts). n.links) node ∙ sym q.are_links, one_message q.message parts parts' (subst (λ (m : List ℕ). IsData parts m) message p.is_data) q.is_data)

file_once : (links links' : List LinkParts) (parts parts' : DataParts) (head head' : List ℕ) (children children' : List Child) (size size' : ℕ) → links ≡ links' → parts ≡ parts'
    → IsFileOf links parts head children size → IsFileOf links' parts' head' children' size' → SamePart head head' children children'
file_once links links' parts parts' head head' children children' size size' same same_parts p q = record {
  heads = p.is_head ∙ ap (λ (d : DataParts). unwrap_or d.content []) same_parts ∙ sym q.is_head;
  kids = p.are_children ∙ ap (λ (ls : List LinkParts). children_of ls parts.blocksizes) same ∙ ap (λ (d : DataParts). children_of links' d.blocksizes) same_parts ∙ sym q.are_children;
}

part_once : OneParse → (h : Hashing) (link : Link) (head head' : List ℕ) (children children' : List Child) (size size' : ℕ) → IsPart h link head children size → IsPart h link head' children' size'
    → SamePart head head' children children' ⊎ Collision h
part_once one h link head head' children children' size size' (inl p) (inl q) =
    either (one_block h link head head' p.is_block q.is_block) (λ same. inl (record { heads = same; kids = p.no_children ∙ sym q.no_children }))
part_once one h link head head' children children' size size' (inl p) (inr q) = absurd (codecs link.codec p.is_raw q.is_dag_pb)
part_once one h link head head' children children' size size' (inr p) (inl q) = absurd (codecs link.codec q.is_raw p.is_dag_pb)
part_once one h link head head' children children' size size' (inr p) (inr q) =
    either (one_block h link p.block q.block p.is_block q.is_block) (λ same.
    let parsed = one q.block p.links q.links p.parts q.parts (subst (λ (b : List ℕ). IsParsed b p.links p.parts) same p.is_parsed) q.is_parsed in
    inl (file_once p.links q.links p.parts q.parts head head' children children' size size' parsed.0 parsed.1 p.is_file q.is_file))

mutual
  once : OneParse → (h : Hashing) (link : Link) (a b : List ℕ) → Names h link a → Names h link b → (a ≡ b) ⊎ Collision h
  once one h link a b (names head children size rest part all e) (names head' children' size' rest' part' all' e') =
      either (part_once one h link head head' children children' size size' part part') (λ same.
      either (once_all one h children rest rest' all (subst (λ (cs : List Child). NamesAll h cs rest') (sym same.kids) all')) (λ rests.
      inl (e ∙ ap (λ (x : List ℕ). x ++ rest) same.heads ∙ ap (λ (x : List ℕ). head' ++ x) rests ∙ sym e')))

  once_all : OneParse → (h : Hashing) (children : List Child) (a b : List ℕ) → NamesAll h children a → NamesAll h children b → (a ≡ b) ⊎ Collision h
  once_all one h [] a b (no_child e) (no_child e') = inl (e ∙ sym e')
  once_all one h (child ∷ children) a b (one_child first rest named size all e) (one_child first' rest' named' size' all' e') =
      either (once one h child.link first first' named named') (λ firsts.
      either (once_all one h children rest rest' all all') (λ rests.
      inl (e ∙ ap (λ (x : List ℕ). x ++ rest) firsts ∙ ap (λ (x : List ℕ). first' ++ x) rests ∙ sym e')))

pub named_once : OneParse → (h : Hashing) (link : Link) (a b : List ℕ) → Names h link a → Names h link b → (a ≡ b) ⊎ Collision h
named_once one h link a b p q = once one h link a b p q

-- ---- a range

drop_append : (n : ℕ) (xs ys : List ℕ) (k : ℕ) → k ≡ n - length xs → drop n (xs ++ ys) ≡ drop n xs ++ drop k ys
drop_append zero xs ys k is = ap (λ (i : ℕ). xs ++ drop i ys) (let none : 0 ≡ k = omega (arith, is) in none)
drop_append (suc n) [] ys k is = ap (λ (i : ℕ). drop i ys) (let same : suc n ≡ k = omega (arith, is) in same)
drop_append (suc n) (x ∷ xs) ys k is = drop_append n xs ys k (omega (arith, is))

take_append : (n : ℕ) (xs ys : List ℕ) (k : ℕ) → k ≡ n - length xs → take n (xs ++ ys) ≡ take n xs ++ take k ys
take_append zero xs ys k is = ap (λ (i : ℕ). take i ys) (let none : 0 ≡ k = omega (arith, is) in none)
take_append (suc n) [] ys k is = ap (λ (i : ℕ). take i ys) (let same : suc n ≡ k = omega (arith, is) in same)
take_append (suc n) (x ∷ xs) ys k is = ap (λ (zs : List ℕ). x ∷ zs) (take_append n xs ys k (omega (arith, is)))

at_most_append : (o : Option ℕ) (xs ys : List ℕ) (n : ℕ) → n ≡ length xs → at_most o (xs ++ ys) ≡ at_most o xs ++ at_most (option_map (λ (c : ℕ). c - n) o) ys
at_most_append None xs ys n is = refl
at_most_append (Some c) xs ys n is = take_append c xs ys (c - n) (ap (λ (k : ℕ). c - k) is)

-- the range in some bytes, and then in what follows
slice_append : (range : Range) (xs ys : List ℕ) → slice range (xs ++ ys) ≡ slice range xs ++ slice (past (length xs) range) ys
slice_append range xs ys =
    ap (λ (zs : List ℕ). at_most range.count zs) (drop_append range.start xs ys (range.start - length xs) refl)
    ∙ at_most_append range.count (drop range.start xs) (drop (range.start - length xs) ys) (length xs - range.start) (sym (length-drop range.start xs))

no_bytes : (xs : List ℕ) → length xs ≡ 0 → xs ≡ []
no_bytes [] none = refl
no_bytes (x ∷ xs) none = absurd (omega (arith, none))

at_most_none : (o : Option ℕ) → at_most o [] ≡ []
at_most_none None = refl
at_most_none (Some zero) = refl
at_most_none (Some (suc n)) = refl

slice_outside : (range : Range) (xs : List ℕ) → IsOutside (length xs) range → slice range xs ≡ []
slice_outside range xs (inl early) = ap (λ (zs : List ℕ). at_most range.count zs) (no_bytes (drop range.start xs) (omega (arith, early.1, length-drop range.start xs))) ∙ at_most_none range.count
slice_outside range xs (inr empty) = ap (λ (o : Option ℕ). at_most o (drop range.start xs)) empty

joined : (h : Hashing) (children others : List Child) (a b : List ℕ) → NamesAll h children a → NamesAll h others b → NamesAll h (children ++ others) (a ++ b)
joined h [] others a b (no_child e) all = subst (λ (x : List ℕ). NamesAll h others (x ++ b)) (sym e) all
joined h (child ∷ children) others a b (one_child first rest named has more e) all =
    one_child first (rest ++ b) named has (joined h children others rest b more all) (ap (λ (x : List ℕ). x ++ b) e ∙ append_assoc first rest b)

-- the content of the parts that remain, after the first was taken
after_part : OneParse → (h : Hashing) (next : Child) (others : List Child) (head : List ℕ) (children : List Child) (size : ℕ) (rest : List ℕ) → IsPart h next.link head children size → NamesAll h (next ∷ others) rest
    → ((after : List ℕ) × NamesAll h (children ++ others) after × (rest ≡ head ++ after)) ⊎ Collision h
after_part one h next others head children size rest part (one_child first more (names head' children' size' rest' part' all' e') has all e) =
    either (part_once one h next.link head head' children children' size size' part part') (λ same.
    inl (
      rest' ++ more,
      joined h children others rest' more (subst (λ (cs : List Child). NamesAll h cs rest') (sym same.kids) all') all,
      e ∙ ap (λ (x : List ℕ). x ++ more) (e' ∙ ap (λ (x : List ℕ). x ++ rest') (sym same.heads)) ∙ append_assoc head rest' more,
    ))

-- the same, after it was skipped
after_skip : (h : Hashing) (next : Child) (others : List Child) (size : ℕ) (rest : List ℕ) → next.size ≡ Some size → NamesAll h (next ∷ others) rest
    → (first : List ℕ) × (after : List ℕ) × NamesAll h others after × (rest ≡ first ++ after) × (size ≡ length first)
after_skip h next others size rest sized (one_child first more named has all e) = (first, more, all, e, subst (λ (o : Option ℕ). HasSize o (length first)) sized has)

pub ranged : OneParse → (h : Hashing) (root : Link) (range : Range) (content taken : List ℕ) (remain : List Child) (left : Range) → Names h root content → Walks h root range taken remain left
    → Untaken h range content taken remain left ⊎ Collision h
ranged one h root range content taken remain left named (starts none is same) =
    inl (record {
      rest = content;
      named = subst (λ (cs : List Child). NamesAll h cs content) (sym is) (one_child content [] named tt (no_child refl) (sym (append-nil content)));
      is = ap (λ (r : Range). slice r content) (sym same) ∙ ap (λ (x : List ℕ). x ++ slice left content) (sym none);
    })
ranged one h root range content taken remain left named (takes before next others was head children size walk part has taken_is remain_is left_is) =
    either (ranged one h root range content before (next ∷ others) was named walk) (λ u.
    either (after_part one h next others head children size u.rest part u.named) (λ found.
    inl (record {
      rest = found.0;
      named = subst (λ (cs : List Child). NamesAll h cs found.0) (sym remain_is) found.1;
      is = u.is ∙ ap (λ (x : List ℕ). before ++ slice was x) found.2 ∙ ap (λ (x : List ℕ). before ++ x) (slice_append was head found.0)
          ∙ ap (λ (r : Range). before ++ (slice was head ++ slice r found.0)) (sym left_is) ∙ sym (append_assoc before (slice was head) (slice left found.0))
          ∙ ap (λ (x : List ℕ). x ++ slice left found.0) (sym taken_is);
    })))
ranged one h root range content taken remain left named (skips next was size walk sized outside left_is) =
    either (ranged one h root range content taken (next ∷ remain) was named walk) (λ u.
    let found = after_skip h next remain size u.rest sized u.named in
    inl (record {
      rest = found.1;
      named = found.2;
      is = u.is ∙ ap (λ (x : List ℕ). taken ++ slice was x) found.3 ∙ ap (λ (x : List ℕ). taken ++ x) (slice_append was found.0 found.1)
          ∙ ap (λ (x : List ℕ). taken ++ (x ++ slice (past (length found.0) was) found.1)) (slice_outside was found.0 (subst (λ (n : ℕ). IsOutside n was) found.4 outside))
          ∙ ap (λ (n : ℕ). taken ++ slice (past n was) found.1) (sym found.4) ∙ ap (λ (r : Range). taken ++ slice r found.1) (sym left_is);
    }))
