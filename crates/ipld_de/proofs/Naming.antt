-- Fields that are found by their names while the members of a map are taken one by one.
use Rattle.std.proofs.Common.{◌≡◌, ◌⊎◌, inl, inr, ℕ, zero, suc, ◌+◌, ◌-◌, ◌<◌, ◌≤◌, List, [], ◌∷◌, length, get_or, slice_get, Bor, Bool, true, false, cond, Option, Some, None, Result, Ok, Err, IfSome, IfNone, IfOk, IfErr, OnOk, OnErr, refl, ap, ap₂, sym, subst, ◌∙◌, arith}
use Rattle.std.proofs.lemmas.Grind.{common_steps}
use Rattle.std.proofs.lemmas.List.Quantifiers.{position-Some}
use Rattle.std.proofs.lemmas.List.Sums.{fails_before_first}
use Rattle.std.proofs.lemmas.Slice.Eq.{bytes_eq-Decides}
use Rattle.std.specs.List.{position, position_or_len}
use Rattle.std.specs.Str.{bytes_eq}
use Rattle.ipld_tree.specs.Tree.{Tree, Members, no_members, member}
use Rattle.ipld_ser.specs.Image.{both}
use Rattle.ipld_ser.specs.declared.error.SerdeError.{SerdeError}
use Rattle.ipld_ser.specs.declared.error.SerdeError.TheVariants.{Memory}
use Rattle.ipld_de.specs.Reading.{RejectsToRead}
use Rattle.ipld_de.specs.Fields.{and_fields, among, AreDistinct, all_among, reads_fields, under_each, strings}
use Rattle.ipld_de.specs.Lemmas.Skipping.{not_this}

-- ---- a name and the names after it

both_none : {A B C : Type 0} (f : A → B → C) (o : Option A) → both f o None ≡ None
both_none f None = refl
both_none f (Some a) = refl

pub other_way : (a b : List ℕ) (x : Bool) → bytes_eq b a ≡ x → bytes_eq a b ≡ false → x ≡ false
other_way a b false is none = refl
other_way a b true is none = let yes : bytes_eq a b ≡ true = (bytes_eq-Decides a b).1 (sym ((bytes_eq-Decides b a).0 is)) in absurd cc

-- a name that comes later isn't this one
pub not_later : (names : List (List ℕ)) (i : ℕ) (name k : List ℕ) → among name names ≡ false → slice_get names i ≡ Some k → bytes_eq k name ≡ false
not_later [] i name k none at = absurd cc
not_later (n ∷ names) zero name k none at = let same : n ≡ k = cc in subst (λ m. bytes_eq m name ≡ false) same (not_this (bytes_eq n name) (among name names) none).0
not_later (n ∷ names) (suc i) name k none at = not_later names i name k (not_this (bytes_eq n name) (among name names) none).1 at

pub or_later : (b rest : Bool) → rest ≡ true → cond b true rest ≡ true
or_later true rest is = refl
or_later false rest is = is

pub among_at : (names : List (List ℕ)) (i : ℕ) (k : List ℕ) → slice_get names i ≡ Some k → among k names ≡ true
among_at [] i k at = absurd cc
among_at (n ∷ names) zero k at = let same : n ≡ k = cc in ap (λ b. cond b true (among k names)) ((bytes_eq-Decides n k).1 same)
among_at (n ∷ names) (suc i) k at = or_later (bytes_eq n k) (among k names) (among_at names i k at)

-- ---- the first field and the others

pub first_offered : {C D X : Type 0} (first first' : List ℕ → Members → Option C) (others : List (List ℕ) → Members → Option D) (names : List (List ℕ)) (index : ℕ) (k : List ℕ) (t : Tree) (r : Result X SerdeError)
    → index ≡ 0 → AreDistinct names → slice_get names index ≡ Some k
    → OnOk r ((ms : Members) → first' k ms ≡ first k (member k t ms))
    → ((more : List (List ℕ)) (ms : Members) → among k more ≡ false → others more (member k t ms) ≡ others more ms)
    → OnOk r ((ms : Members) → under_each first' others names ms ≡ under_each first others names (member k t ms))
first_offered first first' others [] index k t r zeroth distinct at step skips = absurd cc
first_offered first first' others (name ∷ names) (suc i) k t r zeroth distinct at step skips = absurd (omega arith)
first_offered first first' others (name ∷ names) zero k t (Err e) zeroth distinct at step skips = step
first_offered first first' others (name ∷ names) zero k t (Ok x) zeroth distinct at step skips = λ ms.
    let same : name ≡ k = cc in
    subst (λ n. and_fields (first' n) (others names) ms ≡ and_fields (first n) (others names) (member k t ms)) (sym same)
    (ap₂ (both (λ c d. (c, d))) (step ms) (sym (skips names ms (subst (λ n. among n names ≡ false) same distinct.0))))

first_none : {C D : Type 0} (first : List ℕ → Members → Option C) (others : List (List ℕ) → Members → Option D) (names : List (List ℕ)) (index : ℕ) (k : List ℕ) (ms : Members)
    → index ≡ 0 → slice_get names index ≡ Some k → first k ms ≡ None → under_each first others names ms ≡ None
first_none first others [] index k ms zeroth at none = refl
first_none first others (name ∷ names) (suc i) k ms zeroth at none = absurd (omega arith)
first_none first others (name ∷ names) zero k ms zeroth at none =
    let same : name ≡ k = cc in
    ap (λ o. both (λ c d. (c, d)) o (others names ms)) (ap (λ n. first n ms) same ∙ none)

pub first_rejected : {C D X : Type 0} (first : List ℕ → Members → Option C) (others : List (List ℕ) → Members → Option D) (names : List (List ℕ)) (index : ℕ) (k : List ℕ) (t : Tree) (r : Result X SerdeError)
    → index ≡ 0 → slice_get names index ≡ Some k
    → IfErr r (λ e. (e ≡ Memory) ⊎ ((ms : Members) → first k (member k t ms) ≡ None))
    → IfErr r (λ e. (e ≡ Memory) ⊎ ((ms : Members) → under_each first others names (member k t ms) ≡ None))
first_rejected first others names index k t (Ok x) zeroth at rejected = rejected
first_rejected first others names index k t (Err e) zeroth at (inl memory) = inl memory
first_rejected first others names index k t (Err e) zeroth at (inr none) = inr (λ ms. first_none first others names index k (member k t ms) zeroth at (none ms))

pub others_offered : {C D X : Type 0} (first : List ℕ → Members → Option C) (others others' : List (List ℕ) → Members → Option D) (names : List (List ℕ)) (index : ℕ) (k : List ℕ) (t : Tree) (r : Result X SerdeError)
    → (index ≡ 0 → ⊥) → AreDistinct names → slice_get names index ≡ Some k
    → ((name : List ℕ) (ms : Members) → bytes_eq name k ≡ false → first name (member k t ms) ≡ first name ms)
    → ((more : List (List ℕ)) → AreDistinct more → slice_get more (index - 1) ≡ Some k → OnOk r ((ms : Members) → others' more ms ≡ others more (member k t ms)))
    → OnOk r ((ms : Members) → under_each first others' names ms ≡ under_each first others names (member k t ms))
others_offered first others others' [] index k t r later distinct at skips step = absurd cc
others_offered first others others' (name ∷ names) zero k t r later distinct at skips step = absurd (later refl)
others_offered {D = D} {X = X} first others others' (name ∷ names) (suc i) k t r later distinct at skips step =
    let before : suc i - 1 ≡ i = omega arith in
    let other : bytes_eq name k ≡ false = other_way k name (bytes_eq name k) refl (not_later names i name k distinct.0 at) in
    joined r (step names distinct.1 (subst (λ j. slice_get names j ≡ Some k) (sym before) at)) other
  where
    joined : (s : Result X SerdeError) → OnOk s ((ms : Members) → others' names ms ≡ others names (member k t ms)) → bytes_eq name k ≡ false
        → OnOk s ((ms : Members) → and_fields (first name) (others' names) ms ≡ and_fields (first name) (others names) (member k t ms))
    joined (Err e) steps other = steps
    joined (Ok x) steps other = λ ms. ap₂ (both (λ c d. (c, d))) (sym (skips name ms other)) (steps ms)

memory_or : {X : Type 0} {P : Type 0} (r : Result X SerdeError) → IfErr r (λ e. (e ≡ Memory) ⊎ P) → {Q : Type 0} → (P → Q) → IfErr r (λ e. (e ≡ Memory) ⊎ Q)
memory_or (Ok x) rejected none = rejected
memory_or (Err e) (inl memory) none = inl memory
memory_or (Err e) (inr why) none = inr (none why)

others_rejected : {C D X : Type 0} (first : List ℕ → Members → Option C) (others : List (List ℕ) → Members → Option D) (name : List ℕ) (names : List (List ℕ)) (index : ℕ) (k : List ℕ) (t : Tree) (r : Result X SerdeError)
    → (index ≡ 0 → ⊥) → slice_get (name ∷ names) index ≡ Some k
    → (slice_get names (index - 1) ≡ Some k → IfErr r (λ e. (e ≡ Memory) ⊎ ((ms : Members) → others names (member k t ms) ≡ None)))
    → IfErr r (λ e. (e ≡ Memory) ⊎ ((ms : Members) → under_each first others (name ∷ names) (member k t ms) ≡ None))
others_rejected first others name names zero k t r later at rejected = absurd (later refl)
others_rejected first others name names (suc i) k t r later at rejected =
    let before : suc i - 1 ≡ i = omega arith in
    memory_or r (rejected (subst (λ j. slice_get names j ≡ Some k) (sym before) at))
    (λ none ms. ap (both (λ c d. (c, d)) (first name (member k t ms))) (none ms) ∙ both_none (λ c d. (c, d)) (first name (member k t ms)))

pub each_rejected : {C D X : Type 0} (first : List ℕ → Members → Option C) (others : List (List ℕ) → Members → Option D) (names : List (List ℕ)) (index : ℕ) (k : List ℕ) (t : Tree) (r : Result X SerdeError)
    → (index ≡ 0 → ⊥) → slice_get names index ≡ Some k
    → ((more : List (List ℕ)) → slice_get more (index - 1) ≡ Some k → IfErr r (λ e. (e ≡ Memory) ⊎ ((ms : Members) → others more (member k t ms) ≡ None)))
    → IfErr r (λ e. (e ≡ Memory) ⊎ ((ms : Members) → under_each first others names (member k t ms) ≡ None))
each_rejected first others [] index k t r later at rejected = absurd cc
each_rejected first others (name ∷ names) index k t r later at rejected = others_rejected first others name names index k t r later at (rejected names)

-- ---- the end

pub first_missing : {C D : Type 0} (first : List ℕ → Members → Option C) (others : List (List ℕ) → Members → Option D) (names : List (List ℕ))
    → ((name : List ℕ) → first name no_members ≡ None) → under_each first others names no_members ≡ None
first_missing first others [] none = refl
first_missing first others (name ∷ names) none = ap (λ o. both (λ c d. (c, d)) o (others names no_members)) (none name)

pub each_finished : {C D : Type 0} (first : List ℕ → Members → Option C) (others : List (List ℕ) → Members → Option D) (names : List (List ℕ)) (count : ℕ) (c : C) (d : D) → length names ≡ count + 1
    → ((name : List ℕ) → first name no_members ≡ Some c) → ((more : List (List ℕ)) → length more ≡ count → others more no_members ≡ Some d)
    → under_each first others names no_members ≡ Some (c, d)
each_finished first others [] count c d long found rest = absurd (omega arith)
each_finished first others (name ∷ names) count c d long found rest =
    let shorter : length names ≡ count = omega arith in
    rw (found name, rest names shorter) refl

-- ---- one member taken

at_end : {C : Type 0} (strict : Bool) (names : List (List ℕ)) (reads : Members → Option C) → reads_fields strict names reads no_members ≡ reads no_members
at_end true names reads = refl
at_end false names reads = refl

pub reads_same : {C : Type 0} (strict : Bool) (names : List (List ℕ)) (before after : Members → Option C) (ms : Members)
    → before ms ≡ after ms → reads_fields strict names before ms ≡ reads_fields strict names after ms
reads_same true names before after ms same = ap (λ o. cond (all_among names ms) o None) same
reads_same false names before after ms same = same

-- no member is left
module _ {C : Type 0} (strict : Bool) (names : List (List ℕ)) (reads : Members → Option C) (ms : Members) (whole : Option C) (ended : ms ≡ no_members) (so_far : reads_fields strict names reads ms ≡ whole) where
  whole_read : whole ≡ reads no_members
  whole_read = sym so_far ∙ ap (reads_fields strict names reads) ended ∙ at_end strict names reads

  pub finished : {V : Type 0} (contents : V → C) (r : Result V SerdeError) → IfOk r (λ v. reads no_members ≡ Some (contents v)) → IfOk r (λ v. whole ≡ Some (contents v))
  finished contents (Ok v) found = whole_read ∙ found
  finished contents (Err e) found = found

  pub missing : {V : Type 0} (r : Result V SerdeError) → IfErr r (λ e. reads no_members ≡ None) → IfErr r (λ e. RejectsToRead whole e)
  missing (Ok v) none = none
  missing (Err e) none = inr (whole_read ∙ none)

under_known : {C : Type 0} (known rest : Bool) (o : Option C) → known ≡ true → cond (cond known rest false) o None ≡ cond rest o None
under_known true rest o is = refl
under_known false rest o is = absurd cc

chosen_none : {C : Type 0} (b : Bool) (o : Option C) → o ≡ None → cond b o None ≡ None
chosen_none true o none = none
chosen_none false o none = refl

-- a member of this name was taken
module _ {C : Type 0} (strict : Bool) (names : List (List ℕ)) (before : Members → Option C) (all rest : Members) (whole : Option C) (k : List ℕ) (u : Tree)
    (taken : all ≡ member k u rest) (so_far : reads_fields strict names before all ≡ whole) where
  from_member : whole ≡ reads_fields strict names before (member k u rest)
  from_member = sym so_far ∙ ap (reads_fields strict names before) taken

  pub offered : (after : Members → Option C) → ((ms : Members) → after ms ≡ before (member k u ms)) → among k names ≡ true → reads_fields strict names after rest ≡ whole
  offered after step known = chosen strict ∙ sym from_member
    where
      chosen : (b : Bool) → reads_fields b names after rest ≡ reads_fields b names before (member k u rest)
      chosen true = ap (λ o. cond (all_among names rest) o None) (step rest) ∙ sym (under_known (among k names) (all_among names rest) (before (member k u rest)) known)
      chosen false = step rest

  pub rejected : (e : SerdeError) → (e ≡ Memory) ⊎ ((ms : Members) → before (member k u ms) ≡ None) → RejectsToRead whole e
  rejected e (inl memory) = inl memory
  rejected e (inr none) = inr (from_member ∙ chosen strict)
    where
      chosen : (b : Bool) → reads_fields b names before (member k u rest) ≡ None
      chosen true = chosen_none (cond (among k names) (all_among names rest) false) (before (member k u rest)) (none rest)
      chosen false = none rest

  pub skipped : strict ≡ false → before (member k u rest) ≡ before rest → reads_fields strict names before rest ≡ whole
  skipped lax skips = chosen strict lax ∙ sym from_member
    where
      chosen : (b : Bool) → b ≡ false → reads_fields b names before rest ≡ reads_fields b names before (member k u rest)
      chosen true is = absurd cc
      chosen false is = sym skips

  pub unknown : strict ≡ true → among k names ≡ false → whole ≡ None
  unknown is none = from_member ∙ chosen strict is
    where
      chosen : (b : Bool) → b ≡ true → reads_fields b names before (member k u rest) ≡ None
      chosen true is = ap (λ b. cond (cond b (all_among names rest) false) (before (member k u rest)) None) none
      chosen false is = absurd cc

-- ---- the index of a key among lent names

named_at : (names : List (Bor (List ℕ))) (i : ℕ) (d : Bor (List ℕ)) (key : List ℕ) → i < length names → bytes_eq (get_or names i d).now key ≡ true → slice_get (strings names) i ≡ Some key
named_at [] i d key within is = absurd (omega arith)
named_at (name ∷ names) zero d key within is = ap Some ((bytes_eq-Decides name.now key).0 is)
named_at (name ∷ names) (suc i) d key within is = named_at names i d key (omega arith) is

none_is_key : (names : List (Bor (List ℕ))) (key : List ℕ) → ((k : ℕ) (d : Bor (List ℕ)) → k < length names → bytes_eq (get_or names k d).now key ≡ false) → among key (strings names) ≡ false
none_is_key [] key others = refl
none_is_key (name ∷ names) key others =
    ap (λ b. cond b true (among key (strings names))) (others zero name (omega arith)) ∙ none_is_key names key (λ k d within. others (suc k) d (omega arith))

nothing : Bor (List ℕ)
nothing = record { ref_ptr = (0, 0); now = [] }

-- the index that `position` returns is the key's
pub index_found : (names : List (Bor (List ℕ))) (key : List ℕ) (index : Option ℕ) → index ≡ position (λ name. bytes_eq name.now key) names
    → IfSome index (λ i. slice_get (strings names) i ≡ Some key)
index_found names key None is = tt
index_found names key (Some i) is =
    let first = position-Some (λ name. bytes_eq name.now key) names i nothing (sym is) in
    named_at names i nothing key first.0 first.1

-- where it returns none, no name is the key
pub no_index : (names : List (Bor (List ℕ))) (key : List ℕ) (index : Option ℕ) → index ≡ position (λ name. bytes_eq name.now key) names
    → IfNone index (among key (strings names) ≡ false)
no_index names key (Some i) is = tt
no_index names key None is =
    let test : Bor (List ℕ) → Bool = λ name. bytes_eq name.now key in
    let all_fail : length names ≤ position_or_len test names = grind (arith, common_steps) in
    none_is_key names key (λ k d within. fails_before_first test names k d (omega arith))

-- ---- what an error leaves

pub first_unchanged : {C D U E : Type 0} (first first' : List ℕ → Members → Option C) (others : List (List ℕ) → Members → Option D) (r : Result U E)
    → ((name : List ℕ) → OnErr r ((ms : Members) → first' name ms ≡ first name ms)) → (names : List (List ℕ))
    → OnErr r ((ms : Members) → under_each first' others names ms ≡ under_each first others names ms)
first_unchanged first first' others (Ok u) same names = same []
first_unchanged first first' others (Err e) same [] = λ ms. refl
first_unchanged {C = C} {D = D} first first' others (Err e) same (name ∷ names) = λ ms. ap (λ o. both {C = C × D} (λ c d. (c, d)) o (others names ms)) (same name ms)

pub others_unchanged : {C D U E : Type 0} (first : List ℕ → Members → Option C) (others others' : List (List ℕ) → Members → Option D) (r : Result U E)
    → ((names : List (List ℕ)) → OnErr r ((ms : Members) → others' names ms ≡ others names ms)) → (names : List (List ℕ))
    → OnErr r ((ms : Members) → under_each first others' names ms ≡ under_each first others names ms)
others_unchanged first others others' (Ok u) same names = same []
others_unchanged first others others' (Err e) same [] = λ ms. refl
others_unchanged {C = C} {D = D} first others others' (Err e) same (name ∷ names) = λ ms. ap (both {C = C × D} (λ c d. (c, d)) (first name ms)) (same names ms)
