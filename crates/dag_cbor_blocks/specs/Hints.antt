-- The length hints of lists and maps, and the bytes of a block that no hint counts on.
use Rattle.std.specs.Prelude.{◌≡◌, ◌+◌, ◌<◌, ◌≤◌, ℕ, suc, List, [], ◌∷◌, length, Option, Some, None, Result, Ok, Err}
use Rattle.std.specs.Coded.{Unit-prop}
use Rattle.std.proofs.Props.{props}
use Rattle.ipld_tokens.specs.Token.{TokenModel, seq, map}
use Rattle.ipld_tokens.specs.Hints.{hint_of}
use Rattle.ipld_tokens.specs.declared.token.Token.{Token}
use Rattle.dag_cbor_format.specs.declared.error.CborError.{CborError}
use Rattle.dag_cbor_format.specs.Reading.{Frame, one, many, pairs, value, mark, Out, yields}

-- the number of items or pairs in the innermost frame, if it is that of a list or a map
abbrev pub length_inside : List Frame → ℕ
length_inside (many n ∷ fs) = n
length_inside (pairs n seen ∷ fs) = n
length_inside _ = 0

-- the length of the list or map that a step opens
abbrev pub announced : Out → ℕ
announced (yields t fs rest) = length_inside fs
announced _ = 0

-- True if the hint is the length, and `after` is `before` without that many bytes, so that no other
-- hint counts on them. The hint is absent exactly if the length exceeds `before`.
abbrev pub HintIs : ℕ → ℕ → ℕ → Option ℕ → Type 0
HintIs len before after None = (before < len) × (after ≡ before)
HintIs len before after (Some n) = (n ≡ len) × (n + after ≡ before)

-- True if `HintIs` holds of the hint of a token, or if the token has none and the bytes stay.
abbrev pub HintFits : ℕ → ℕ → ℕ → Option (Option ℕ) → Type 0
HintFits len before after None = after ≡ before
HintFits len before after (Some hint) = HintIs len before after hint

-- True if `HintFits` holds of the hint of a returned token. At the end, the bytes that no hint
-- counts on stay as they were. After an error, no hint follows.
abbrev pub Hinted : ℕ → ℕ → ℕ → Result (Option Token) CborError → Type 0
Hinted len before after (Ok (Some t)) = HintFits len before after (hint_of t)
Hinted len before after (Ok None) = after ≡ before
Hinted len before after (Err error) = Unit {0}

-- the items and pairs that are yet to begin
abbrev pub pending : List Frame → ℕ
pending [] = 0
pending (one ∷ fs) = suc (pending fs)
pending (many n ∷ fs) = n + pending fs
pending (pairs n seen ∷ fs) = n + pending fs
pending (value n seen ∷ fs) = suc (n + pending fs)
pending (mark ∷ fs) = pending fs

-- True if the bytes after a token are at most those that no hint counts on and the items and pairs
-- that are yet to begin, except those in the list or map that the token opens.
abbrev pub Covers : ℕ → List ℕ → TokenModel → List Frame → Type 0
Covers uncounted rest seq (many n ∷ fs) = length rest ≤ uncounted + pending fs
Covers uncounted rest seq _ = ⊥
Covers uncounted rest map (pairs n seen ∷ fs) = length rest ≤ uncounted + pending fs
Covers uncounted rest map _ = ⊥
Covers uncounted rest t fs = length rest ≤ uncounted + pending fs

-- True if `Covers` holds after the step, or if the step yields no token.
abbrev pub Covered : ℕ → Out → Type 0
Covered uncounted (yields t fs rest) = Covers uncounted rest t fs
Covered uncounted _ = Unit {0}

Covers-prop : (uncounted : ℕ) (rest : List ℕ) (t : TokenModel) (fs : List Frame) → IsProp (Covers uncounted rest t fs)
Covers-prop uncounted rest seq (many n ∷ fs) = hlevel props
Covers-prop uncounted rest seq fs = λ x. absurd x
Covers-prop uncounted rest map (pairs n seen ∷ fs) = hlevel props
Covers-prop uncounted rest map fs = λ x. absurd x
Covers-prop uncounted rest t fs = hlevel props

pub Covered-prop : (uncounted : ℕ) (o : Out) → IsProp (Covered uncounted o)
Covered-prop uncounted (yields t fs rest) = Covers-prop uncounted rest t fs
Covered-prop uncounted o = Unit-prop
