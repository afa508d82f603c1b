-- A text of a CID is ASCII.
use Rattle.std.proofs.Common.{◌≡◌, ℕ, ◌+◌, ◌<◌, Bool, true, false, eqb, List, [], ◌∷◌, length, drop, Option, Some, None, refl, sym, subst, arith}
use Rattle.std.specs.Prelude.{◌&&◌, if◌then◌else◌, option_map}
use Rattle.std.specs.Str.{IsAscii}
use Rattle.std.proofs.lemmas.List.{drop-drop}
use Rattle.std.proofs.lemmas.Str.Ascii.{IsAscii-nil, IsAscii-cons}
use Rattle.std.proofs.lemmas.Bool.Decides.{nat_tests}
use Rattle.ipld_cid.specs.declared.cid.Version.TheVariants.{V0, V1}
use Rattle.ipld_cid.specs.Cid.{Link}
use Rattle.ipld_cid_text.specs.declared.base.Base.{Base}
use Rattle.ipld_cid_text.specs.declared.base.Base.TheVariants.{Base58Btc}
use Rattle.ipld_cid_text.specs.Base.{base_of}
use Rattle.ipld_cid_text.specs.Text.{Form, IsText, has_path, path_len, begins_qm, form_of, multibase_form}
use Rattle.ipld_cid_text.proofs.Writing.{encoded-ascii}

-- the prefix of a base
base_of-ascii : (c : ℕ) (base : Base) → base_of c ≡ Some base → c < 128
base_of-ascii c base e = grind (arith, nat_tests)

-- a text whose letters are ASCII, with the prefix before them
prefix-ascii : (c : ℕ) (text : List ℕ) (form : Form) (o : Option Base) → base_of c ≡ o → option_map (λ base. record { base = base; version = V1; skip = 1 }) o ≡ Some form
    → IsAscii (drop form.skip (c ∷ text)) → IsAscii (c ∷ text)
prefix-ascii c text form None is e h = absurd (cc)
prefix-ascii c text form (Some base) is e h =
    let one : ◌≡◌ {A = Option Form} (Some (record { base = base; version = V1; skip = 1 })) (Some form) = e in
    let skip : 1 ≡ form.skip = cc in
    IsAscii-cons c text (base_of-ascii c base is) (subst (λ (n : ℕ). IsAscii (drop n (c ∷ text))) (sym skip) h)

multibase-ascii : (text : List ℕ) (form : Form) → multibase_form text ≡ Some form → IsAscii (drop form.skip text) → IsAscii text
multibase-ascii [] form e h = IsAscii-nil
multibase-ascii (c ∷ text) form e h = prefix-ascii c text form (base_of c) refl e h

either-ascii : (text : List ℕ) (form : Form) (b : Bool) → (if b then Some (record { base = Base58Btc; version = V0; skip = 0 }) else multibase_form text) ≡ Some form
    → IsAscii (drop form.skip text) → IsAscii text
either-ascii text form true e h =
    let one : ◌≡◌ {A = Option Form} (Some (record { base = Base58Btc; version = V0; skip = 0 })) (Some form) = e in
    let skip : 0 ≡ form.skip = cc in
    subst (λ (n : ℕ). IsAscii (drop n text)) (sym skip) h
either-ascii text form false e h = multibase-ascii text form e h

form-ascii : (text : List ℕ) (form : Form) → form_of text ≡ Some form → IsAscii (drop form.skip text) → IsAscii text
form-ascii text form e h = either-ascii text form (eqb (length text) 46 && begins_qm text) e h

-- a text whose end is ASCII, with `/ipfs/` before it
after_path : (a b c d e f : ℕ) (text : List ℕ) (t : Bool) → has_path (a ∷ b ∷ c ∷ d ∷ e ∷ f ∷ text) ≡ t
    → IsAscii (drop (if t then 6 else 0) (a ∷ b ∷ c ∷ d ∷ e ∷ f ∷ text)) → IsAscii (a ∷ b ∷ c ∷ d ∷ e ∷ f ∷ text)
after_path a b c d e f text true is h =
    let small : (a < 128) × (b < 128) × (c < 128) × (d < 128) × (e < 128) × (f < 128) = (grind (arith, nat_tests), grind (arith, nat_tests), grind (arith, nat_tests), grind (arith, nat_tests), grind (arith, nat_tests), grind (arith, nat_tests)) in
    IsAscii-cons a (b ∷ c ∷ d ∷ e ∷ f ∷ text) small.0 (IsAscii-cons b (c ∷ d ∷ e ∷ f ∷ text) small.1 (IsAscii-cons c (d ∷ e ∷ f ∷ text) small.2 (
    IsAscii-cons d (e ∷ f ∷ text) small.3 (IsAscii-cons e (f ∷ text) small.4 (IsAscii-cons f text small.5 h)))))
after_path a b c d e f text false is h = h

path-ascii : (text : List ℕ) → IsAscii (drop (path_len text) text) → IsAscii text
path-ascii [] h = h
path-ascii (a ∷ []) h = h
path-ascii (a ∷ b ∷ []) h = h
path-ascii (a ∷ b ∷ c ∷ []) h = h
path-ascii (a ∷ b ∷ c ∷ d ∷ []) h = h
path-ascii (a ∷ b ∷ c ∷ d ∷ e ∷ []) h = h
path-ascii (a ∷ b ∷ c ∷ d ∷ e ∷ f ∷ text) h = after_path a b c d e f text (has_path (a ∷ b ∷ c ∷ d ∷ e ∷ f ∷ text)) refl h

pub text-ascii : (link : Link) (text : List ℕ) → IsText link text → IsAscii text
text-ascii link text is =
    let letters : IsAscii (drop (path_len text + is.form.skip) text) = encoded-ascii is.form.base is.bytes _ is.encodes in
    path-ascii text (form-ascii (drop (path_len text) text) is.form is.has_form (subst IsAscii (sym (drop-drop is.form.skip (path_len text) text)) letters))
