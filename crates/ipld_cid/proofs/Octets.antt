-- The bytes that letters encode.
use Rattle.std.proofs.Common.{◌≡◌, ℕ, zero, suc, ◌+◌, ◌-◌, ◌*◌, ◌/◌, ◌%◌, ◌^◌, ◌<◌, ◌≤◌, Bool, true, false, cond, eqb, List, [], ◌∷◌, ◌++◌, length, get_or, take, drop, Option, Some, None, refl, sym, ap, ◌∙◌, append_assoc, arith}
use borrow.Rule.Slice.PartMut.{put_mid}
use Rattle.std.specs.Prelude.{replicate, ◌&&◌}
use Rattle.std.specs.List.{flat_map, list_all}
use Rattle.std.specs.Option.{option_map, option_and_then}
use Rattle.std.specs.Simd.{first_chunks}
use Rattle.std.proofs.lemmas.Bool.Decides.{nat_tests}
use Rattle.std.proofs.lemmas.List.{append-nil, drop_all, drop_more, drop-replicate, take-append-drop, drop-drop, length-take-le, length-drop}
use Rattle.ipld_cid.specs.Base32.{bits}
use Rattle.ipld_cid.specs.TextReading.{values, octets, decoded}
use Rattle.ipld_cid.proofs.Quintets.{bits-append}
use Rattle.ipld_cid.proofs.Letters.{appended, length-values, values-append, values-fill}

-- ---- bits in groups of eight

-- eight bits are one byte
octets-bits : (n w : ℕ) (rest : List ℕ) → octets (bits (8 + w) n ++ rest) ≡ option_map (λ bytes. (n / 2 ^ w % 256) ∷ bytes) (octets (bits w n ++ rest))
octets-bits n w rest =
    let byte = n / 2 ^ w in
    rw (bits-append 8 w n) (ap (λ (b : ℕ). option_map (λ (bytes : List ℕ). b ∷ bytes) (octets (bits w n ++ rest))) (let e : 128 * (byte / 128 % 2) + 64 * (byte / 64 % 2) + 32 * (byte / 32 % 2) + 16 * (byte / 16 % 2) + 8 * (byte / 8 % 2) + 4 * (byte / 4 % 2) + 2 * (byte / 2 % 2) + (byte / 1 % 2) ≡ byte % 256 = omega arith in e))

-- the bits of a byte are that byte
pub octets-byte : (b : ℕ) (rest : List ℕ) → b < 256 → octets (bits 8 b ++ rest) ≡ option_map (λ bytes. b ∷ bytes) (octets rest)
octets-byte b rest fits =
    let same : b / 2 ^ 0 % 256 ≡ b = omega arith in
    octets-bits b 0 rest ∙ ap (λ (c : ℕ). option_map (λ (bytes : List ℕ). c ∷ bytes) (octets rest)) same

-- forty bits are five bytes
pub octets-block : (n : ℕ) → octets (bits 40 n) ≡ Some ((n / 2 ^ 32 % 256) ∷ (n / 2 ^ 24 % 256) ∷ (n / 2 ^ 16 % 256) ∷ (n / 2 ^ 8 % 256) ∷ (n % 256) ∷ [])
octets-block n =
    let below : ℕ → Option (List ℕ) → Option (List ℕ) = λ w bytes. option_map (λ more. (n / 2 ^ w % 256) ∷ more) bytes in
    let last : n / 1 % 256 ≡ n % 256 = omega arith in
    octets-bits n 32 [] ∙ ap (below 32) (octets-bits n 24 [] ∙ ap (below 24) (octets-bits n 16 [] ∙ ap (below 16) (octets-bits n 8 [] ∙ ap (below 8) (octets-bits n 0 [] ∙ ap (λ (b : ℕ). Some (b ∷ [])) last))))

-- ---- text in blocks of eight

-- the bytes of groups
abbrev encoded_by : List ℕ → Option (List ℕ)
encoded_by groups = octets (flat_map (bits 5) groups)

-- five bytes in front, one after the other
five_more : (a b c d e : ℕ) (bytes : Option (List ℕ))
    → option_map (λ more. a ∷ more) (option_map (λ more. b ∷ more) (option_map (λ more. c ∷ more) (option_map (λ more. d ∷ more) (option_map (λ more. e ∷ more) bytes))))
    ≡ option_map (λ more. (a ∷ b ∷ c ∷ d ∷ e ∷ []) ++ more) bytes
five_more a b c d e None = refl
five_more a b c d e (Some more) = refl

-- eight groups and others
eight_more : (groups : List ℕ) → length groups ≡ 8 → (others : Option (List ℕ))
    → option_and_then encoded_by (option_map (λ more. groups ++ more) others) ≡ appended (encoded_by groups) (option_and_then encoded_by others)
eight_more (a ∷ b ∷ c ∷ d ∷ e ∷ f ∷ g ∷ h ∷ []) whole None = refl
eight_more (a ∷ b ∷ c ∷ d ∷ e ∷ f ∷ g ∷ h ∷ []) whole (Some more) = five_more _ _ _ _ _ (encoded_by more)
eight_more (a ∷ b ∷ c ∷ d ∷ e ∷ f ∷ g ∷ h ∷ i ∷ groups) whole others = absurd (omega arith)
eight_more [] whole others = absurd (omega arith)
eight_more (a ∷ []) whole others = absurd (omega arith)
eight_more (a ∷ b ∷ []) whole others = absurd (omega arith)
eight_more (a ∷ b ∷ c ∷ []) whole others = absurd (omega arith)
eight_more (a ∷ b ∷ c ∷ d ∷ []) whole others = absurd (omega arith)
eight_more (a ∷ b ∷ c ∷ d ∷ e ∷ []) whole others = absurd (omega arith)
eight_more (a ∷ b ∷ c ∷ d ∷ e ∷ f ∷ []) whole others = absurd (omega arith)
eight_more (a ∷ b ∷ c ∷ d ∷ e ∷ f ∷ g ∷ []) whole others = absurd (omega arith)

-- eight letters, if they are letters, and others
block_more : (front : Option (List ℕ)) → ((groups : List ℕ) → front ≡ Some groups → length groups ≡ 8) → (others : Option (List ℕ))
    → option_and_then encoded_by (appended front others) ≡ appended (option_and_then encoded_by front) (option_and_then encoded_by others)
block_more None whole others = refl
block_more (Some groups) whole others = eight_more groups (whole groups refl) others

-- eight characters and others
pub decoded-append : (front back : List ℕ) → length front ≡ 8 → decoded (front ++ back) ≡ appended (decoded front) (decoded back)
unfolding decoded
decoded-append front back whole =
    ap (option_and_then encoded_by) (values-append front back)
    ∙ block_more (values front) (λ groups e. length-values front groups e ∙ whole) (values back)

-- the bytes of blocks and then of others
abbrev pub blocks_decoded : List (List ℕ) → List ℕ → Option (List ℕ)
blocks_decoded [] rest = decoded rest
blocks_decoded (block ∷ blocks) rest = appended (decoded block) (blocks_decoded blocks rest)

-- a text is its blocks and what is left
pub decoded-blocks : (k : ℕ) (text : List ℕ) → k * 8 ≤ length text → decoded text ≡ blocks_decoded (first_chunks 8 k text) (drop (k * 8) text)
decoded-blocks zero text h = refl
decoded-blocks (suc k) text h =
    let more : suc k * 8 ≡ 8 + k * 8 = omega arith in
    let whole : length (take 8 text) ≡ 8 = length-take-le 8 text (omega arith) in
    let left : k * 8 ≤ length (drop 8 text) = omega (arith, length-drop 8 text) in
    let rest : drop (k * 8) (drop 8 text) ≡ drop (suc k * 8) text = drop-drop (k * 8) 8 text ∙ ap (λ (n : ℕ). drop n text) (sym more) in
    ap decoded (sym (take-append-drop 8 text))
    ∙ decoded-append (take 8 text) (drop 8 text) whole
    ∙ ap (appended (decoded (take 8 text))) (decoded-blocks k (drop 8 text) left ∙ ap (blocks_decoded (first_chunks 8 k (drop 8 text))) rest)

-- ---- what letters encode

-- no values, no bytes
pub decoded-none : (text : List ℕ) → values text ≡ None → decoded text ≡ None
unfolding decoded
decoded-none text e = ap (option_and_then encoded_by) e

-- values, and so the bytes of their bits
decoded-some : (text groups : List ℕ) → values text ≡ Some groups → decoded text ≡ octets (flat_map (bits 5) groups)
unfolding decoded
decoded-some text groups e = ap (option_and_then encoded_by) e

-- the bytes of eight letters, by their number
pub decoded-block : (text groups : List ℕ) (n : ℕ) → values text ≡ Some groups → flat_map (bits 5) groups ≡ bits 40 n
    → decoded text ≡ Some ((n / 2 ^ 32 % 256) ∷ (n / 2 ^ 24 % 256) ∷ (n / 2 ^ 16 % 256) ∷ (n / 2 ^ 8 % 256) ∷ (n % 256) ∷ [])
decoded-block text groups n e forty = decoded-some text groups e ∙ ap octets forty ∙ octets-block n

-- ---- the last letters

-- so many bytes, where the others are zero
abbrev pub kept : ℕ → List ℕ → Option (List ℕ)
kept n bytes = cond (list_all (λ b. eqb b 0) (drop n bytes)) (Some (take n bytes)) None

-- one byte in front of the bits that are left over
front_1 : (p q : Bool) (a : ℕ) → p ≡ q → option_map (λ more. a ∷ more) (cond p (Some []) None) ≡ cond q (Some (a ∷ [])) None
front_1 true q a e = rw (← e) refl
front_1 false q a e = rw (← e) refl

-- two bytes in front
front_2 : (p q : Bool) (a b : ℕ) → p ≡ q → option_map (λ more. a ∷ more) (option_map (λ more. b ∷ more) (cond p (Some []) None)) ≡ cond q (Some (a ∷ b ∷ [])) None
front_2 true q a b e = rw (← e) refl
front_2 false q a b e = rw (← e) refl

-- three bytes in front
front_3 : (p q : Bool) (a b c : ℕ) → p ≡ q
    → option_map (λ more. a ∷ more) (option_map (λ more. b ∷ more) (option_map (λ more. c ∷ more) (cond p (Some []) None))) ≡ cond q (Some (a ∷ b ∷ c ∷ [])) None
front_3 true q a b c e = rw (← e) refl
front_3 false q a b c e = rw (← e) refl

-- four bytes in front
front_4 : (p q : Bool) (a b c d : ℕ) → p ≡ q
    → option_map (λ more. a ∷ more) (option_map (λ more. b ∷ more) (option_map (λ more. c ∷ more) (option_map (λ more. d ∷ more) (cond p (Some []) None)))) ≡ cond q (Some (a ∷ b ∷ c ∷ d ∷ [])) None
front_4 true q a b c d e = rw (← e) refl
front_4 false q a b c d e = rw (← e) refl

-- a bit is zero where the byte that zeros fill is
zero_1 : (w : ℕ) → (eqb w 0 && true) ≡ (eqb (128 * w + 0 + 0 + 0 + 0 + 0 + 0 + 0) 0 && true)
zero_1 w = grind (arith, nat_tests)

-- two bits are
zero_2 : (w x : ℕ) → (eqb w 0 && (eqb x 0 && true)) ≡ (eqb (128 * w + 64 * x + 0 + 0 + 0 + 0 + 0 + 0) 0 && true)
zero_2 w x = grind (arith, nat_tests)

-- three bits are
zero_3 : (w x y : ℕ) → (eqb w 0 && (eqb x 0 && (eqb y 0 && true))) ≡ (eqb (128 * w + 64 * x + 32 * y + 0 + 0 + 0 + 0 + 0) 0 && true)
zero_3 w x y = grind (arith, nat_tests)

-- four bits are
zero_4 : (w x y z : ℕ) → (eqb w 0 && (eqb x 0 && (eqb y 0 && (eqb z 0 && true)))) ≡ (eqb (128 * w + 64 * x + 32 * y + 16 * z + 0 + 0 + 0 + 0) 0 && true)
zero_4 w x y z = grind (arith, nat_tests)

-- the bytes of fewer than eight groups are the first of those of eight that zeros fill
filled : (groups : List ℕ) → length groups < 8 → 5 * length groups % 8 ≤ 4
    → encoded_by groups ≡ option_and_then (kept (5 * length groups / 8)) (encoded_by (groups ++ replicate (8 - length groups) 0))
filled [] below few = refl
filled (a ∷ []) below few = absurd (omega arith)
filled (a ∷ b ∷ []) below few = front_1 _ _ _ (zero_2 _ _)
filled (a ∷ b ∷ c ∷ []) below few = absurd (omega arith)
filled (a ∷ b ∷ c ∷ d ∷ []) below few = front_2 _ _ _ _ (zero_4 _ _ _ _)
filled (a ∷ b ∷ c ∷ d ∷ e ∷ []) below few = front_3 _ _ _ _ _ (zero_1 _)
filled (a ∷ b ∷ c ∷ d ∷ e ∷ f ∷ []) below few = absurd (omega arith)
filled (a ∷ b ∷ c ∷ d ∷ e ∷ f ∷ g ∷ []) below few = front_4 _ _ _ _ _ _ (zero_3 _ _ _)
filled (a ∷ b ∷ c ∷ d ∷ e ∷ f ∷ g ∷ h ∷ groups) below few = absurd (omega arith)

-- the same of letters, if they are letters
filled_values : (found : Option (List ℕ)) (n : ℕ) → ((groups : List ℕ) → found ≡ Some groups → length groups ≡ n) → n < 8 → 5 * n % 8 ≤ 4
    → option_and_then encoded_by found ≡ option_and_then (kept (5 * n / 8)) (option_and_then encoded_by (appended found (Some (replicate (8 - n) 0))))
filled_values None n is below few = refl
filled_values (Some groups) n is below few =
    let same = is groups refl in
    rw (← same) (filled groups (rw same below) (rw same few))

-- the bytes of fewer than eight letters are the first of those of a block that `a` fills
pub decoded-filled : (text : List ℕ) → length text < 8 → 5 * length text % 8 ≤ 4
    → decoded text ≡ option_and_then (kept (5 * length text / 8)) (decoded (text ++ drop (length text) (replicate 8 97)))
unfolding decoded
decoded-filled text below few =
    let fill : values (text ++ drop (length text) (replicate 8 97)) ≡ appended (values text) (Some (replicate (8 - length text) 0)) =
    values-append text (drop (length text) (replicate 8 97))
    ∙ ap (appended (values text)) (ap values (drop-replicate (length text) 8 97) ∙ values-fill (8 - length text)) in
    rw fill (filled_values (values text) (length text) (length-values text) below few)

-- one, three or six groups leave too many bits over
left_over : (groups : List ℕ) → length groups < 8 → 4 < 5 * length groups % 8 → encoded_by groups ≡ None
left_over (a ∷ []) below many = refl
left_over (a ∷ b ∷ c ∷ []) below many = refl
left_over (a ∷ b ∷ c ∷ d ∷ e ∷ f ∷ []) below many = refl
left_over [] below many = absurd (omega arith)
left_over (a ∷ b ∷ []) below many = absurd (omega arith)
left_over (a ∷ b ∷ c ∷ d ∷ []) below many = absurd (omega arith)
left_over (a ∷ b ∷ c ∷ d ∷ e ∷ []) below many = absurd (omega arith)
left_over (a ∷ b ∷ c ∷ d ∷ e ∷ f ∷ g ∷ []) below many = absurd (omega arith)
left_over (a ∷ b ∷ c ∷ d ∷ e ∷ f ∷ g ∷ h ∷ groups) below many = absurd (omega arith)

-- the same of letters, if they are letters
left_over_values : (found : Option (List ℕ)) (n : ℕ) → ((groups : List ℕ) → found ≡ Some groups → length groups ≡ n) → n < 8 → 4 < 5 * n % 8
    → option_and_then encoded_by found ≡ None
left_over_values None n is below many = refl
left_over_values (Some groups) n is below many = let same = is groups refl in left_over groups (rw same below) (rw same many)

-- one, three or six letters encode no bytes
pub decoded-left_over : (text : List ℕ) → length text < 8 → 4 < 5 * length text % 8 → decoded text ≡ None
unfolding decoded
decoded-left_over text below many = left_over_values (values text) (length text) (length-values text) below many

-- a text whose blocks so far encode the bytes, up to a block that is none
pub decoded-stops : (text items : List ℕ) (blocks : List (List ℕ)) (rest : List ℕ) (i : ℕ) → blocks ≡ first_chunks 8 (length text / 8) text → rest ≡ drop (length text / 8 * 8) text
    → blocks_decoded blocks rest ≡ option_map (λ more. items ++ more) (blocks_decoded (drop i blocks) rest) → i < length blocks → decoded (get_or blocks i []) ≡ None → decoded text ≡ None
decoded-stops text items blocks rest i front back so_far within none =
    let parts : blocks_decoded (drop i blocks) rest ≡ None =
    ap (λ (bs : List (List ℕ)). blocks_decoded bs rest) (drop_more blocks i [] within)
    ∙ ap (λ (bytes : Option (List ℕ)). appended bytes (blocks_decoded (drop (i + 1) blocks) rest)) none in
    decoded-blocks (length text / 8) text (omega arith)
    ∙ ap (λ (bs : List (List ℕ)). blocks_decoded bs (drop (length text / 8 * 8) text)) (sym front) ∙ ap (blocks_decoded blocks) (sym back)
    ∙ so_far ∙ ap (option_map (λ (more : List ℕ). items ++ more)) parts

-- bytes in front of bytes in front
front_twice : (items five : List ℕ) (others : Option (List ℕ)) → option_map (λ more. items ++ more) (appended (Some five) others) ≡ option_map (λ more. (items ++ five) ++ more) others
front_twice items five None = refl
front_twice items five (Some more) = ap (λ (bytes : List ℕ). Some bytes) (sym (append_assoc items five more))

-- one block more
pub decoded-goes_on : (items five : List ℕ) (blocks : List (List ℕ)) (rest : List ℕ) (i : ℕ) (all : Option (List ℕ)) → all ≡ option_map (λ more. items ++ more) (blocks_decoded (drop i blocks) rest)
    → i < length blocks → Some five ≡ decoded (get_or blocks i []) → all ≡ option_map (λ more. (items ++ five) ++ more) (blocks_decoded (drop (i + 1) blocks) rest)
decoded-goes_on items five blocks rest i all so_far within is =
    let parts : blocks_decoded (drop i blocks) rest ≡ appended (Some five) (blocks_decoded (drop (i + 1) blocks) rest) =
    ap (λ (bs : List (List ℕ)). blocks_decoded bs rest) (drop_more blocks i [] within)
    ∙ ap (λ (bytes : Option (List ℕ)). appended bytes (blocks_decoded (drop (i + 1) blocks) rest)) (sym is) in
    so_far ∙ ap (option_map (λ (more : List ℕ). items ++ more)) parts ∙ front_twice items five (blocks_decoded (drop (i + 1) blocks) rest)

-- a text whose blocks encode the bytes, and then what is left
pub decoded-ends : (text items : List ℕ) (blocks : List (List ℕ)) (rest : List ℕ) (i : ℕ) (last : Option (List ℕ)) → blocks ≡ first_chunks 8 (length text / 8) text → rest ≡ drop (length text / 8 * 8) text
    → blocks_decoded blocks rest ≡ option_map (λ more. items ++ more) (blocks_decoded (drop i blocks) rest) → length blocks ≤ i → decoded rest ≡ last → decoded text ≡ option_map (λ more. items ++ more) last
decoded-ends text items blocks rest i last front back so_far end is =
    decoded-blocks (length text / 8) text (omega arith)
    ∙ ap (λ (bs : List (List ℕ)). blocks_decoded bs (drop (length text / 8 * 8) text)) (sym front) ∙ ap (blocks_decoded blocks) (sym back)
    ∙ so_far ∙ ap (option_map (λ (more : List ℕ). items ++ more)) (ap (λ (bs : List (List ℕ)). blocks_decoded bs rest) (drop_all i blocks end) ∙ is)

-- a list that is written from an index to its end
pub written_to_end : (a : ℕ) (xs ys : List ℕ) → put_mid a (length xs - a) xs ys ≡ take a xs ++ ys
written_to_end a xs ys =
    let none : drop (length xs - a) (drop a xs) ≡ [] = drop_all (length xs - a) (drop a xs) (omega (arith, length-drop a xs)) in
    ap (λ (post : List ℕ). take a xs ++ (ys ++ post)) none ∙ ap (λ (back : List ℕ). take a xs ++ back) (append-nil ys)
