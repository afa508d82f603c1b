-- Readings: the contents that a type reads from a tree of the IPLD data model, or nothing. Values
-- with equal contents differ at most in their capacities.
use Rattle.std.specs.Prelude.{◌≡◌, ◌⊎◌, ℕ, List, Option, Some, None, Result, ok_or}
use Rattle.std.specs.Result.{result_map_both}
use Rattle.ipld_tree.specs.Tree.{Tree}
use Rattle.ipld_tree.specs.Kind.{kind_of}
use Rattle.ipld_ser.specs.declared.error.SerdeError.{SerdeError}
use Rattle.ipld_ser.specs.declared.error.SerdeError.TheVariants.{Memory, WrongKind, Custom}

-- True if `e` is a failed allocation, or nothing is read. If nothing is read, `e` may be any error.
abbrev pub RejectsToRead : {C : Type 0} → Option C → SerdeError → Type 0
RejectsToRead reading e = (e ≡ Memory) ⊎ (reading ≡ None)

-- True if the error is `Custom` with the message `words`.
abbrev pub IsCustom : List ℕ → SerdeError → Type 0
IsCustom words (Custom message) = message.now ≡ words
IsCustom words e = ⊥

-- the error of a tree of another kind than expected: `WrongKind` with the kind found
abbrev pub wrong_kind : Tree → SerdeError
wrong_kind t = WrongKind (kind_of t)

-- True if `e` is `WrongKind` with the kind of the tree `t`.
abbrev pub OtherKind : Tree → SerdeError → Type 0
OtherKind t e = e ≡ wrong_kind t

-- The content of a tree of one kind, or `WrongKind` with the kind found.
abbrev pub taken : {C : Type 0} → (Tree → Option C) → Tree → Result C SerdeError
taken content t = ok_or (content t) (wrong_kind t)

-- True if `e` is the error of content that is taken from a tree of one kind. It is `WrongKind` with
-- the kind found if the tree is of another kind, and otherwise the error of the content.
abbrev pub KindError : {C : Type 0} → (Tree → Option C) → (C → SerdeError → Type 0) → Tree → SerdeError → Type 0
KindError {C} content error t e = ((content t ≡ None) × OtherKind t e) ⊎ ((c : C) × (content t ≡ Some c) × error c e)

-- True if `e` is the error of a tree that may be missing: `missing` if it is, and otherwise the
-- error of the tree.
abbrev pub ContentError : SerdeError → (Tree → SerdeError → Type 0) → Option Tree → SerdeError → Type 0
ContentError missing error None e = e ≡ missing
ContentError missing error (Some t) e = error t e

-- True if a call that does not allocate returns exactly `outcome`: the same error as `result`, or
-- the contents of the value of `result`.
abbrev pub Returns : {T C : Type 0} → (T → C) → Result T SerdeError → Result C SerdeError → Type 0
Returns contents result outcome = result_map_both contents (λ e. e) result ≡ outcome
