-- What an item begins with is what was read of it.
use Rattle.std.proofs.Common.{◌≡◌, inl, inr, ℕ, ℤ, pos, negsuc, suc, ◌^◌, ◌<◌, Bool, true, false, List, [], ◌∷◌, ◌++◌, length, get_or, Some, None, refl, sym, ap, ap₂, subst, ◌∙◌, append_assoc, arith}
use Rattle.std.specs.Int.{w64, from_be_bytes}
use Rattle.ipld_cid.specs.Cid.{Link}
use Rattle.ipld_cid.specs.Bytes.{IsCid}
use Rattle.ipld_cid.proofs.Encodings.{one_meaning}
use Rattle.ipld_tokens.specs.Token.{atom, none}
use Rattle.ipld_tokens.specs.Token as token
use Rattle.dag_cbor_format.specs.declared.error.CborError.{CborError}
use Rattle.dag_cbor_format.specs.declared.major.Major.{Major}
use Rattle.dag_cbor_format.specs.declared.major.Major.TheVariants.{Unsigned, Negative, Bytes, Text, List as Array, Map, Tag, Simple}
use Rattle.dag_cbor_format.specs.Head.{head}
use Rattle.dag_cbor_format.specs.HeadReading.{head_at}
use Rattle.dag_cbor_format.specs.ItemHeader.{Beginning, scalar, front, key_at}
use Rattle.dag_cbor_format.specs.ItemHeader as header
use Rattle.dag_cbor_format.specs.Floats.{beginning_at}
use Rattle.dag_cbor_format.proofs.HeadLaws.{head_at-head}
use Rattle.dag_cbor_format.proofs.ItemHeaders.{front-append, item_header_at-head, item_header_at-bytes, item_header_at-text, key_at-text}
use Rattle.dag_cbor_format.proofs.FloatLaws.{plain_beginning, float_beginning}
use Rattle.dag_cbor_format.specs.ItemHeads.{BeginsWith, BeginsWithKey, RejectsItem, RejectsKey}
use Rattle.dag_cbor_format.specs.LinkBytes.{behind_zero, link_bytes_of_head, link_bytes_at}
use Rattle.dag_cbor_format.specs.declared.item.ItemHead.{ItemHead}
use Rattle.dag_cbor_format.specs.declared.item.ItemHead.TheVariants as begin
use Rattle.ipld_show.specs.Heads.{IsHeadOf}
use Rattle.ipld_show.specs.DataItem.{DataItem, null, boolean, integer, float, text_string, byte_string, link, list, map, DataItems, no_items, item, DataEntries, no_entries, entry, item_count, entry_count, string_encoding, encoding, items_encoding, entries_encoding, IsString, IsDataItem, AreDataItems, AreDataEntries, BeginsWithItem}

-- ---- what an item begins with

abbrev beginning_of : DataItem → Beginning
beginning_of null = scalar (atom none)
beginning_of (boolean b) = scalar (atom (token.boolean b))
beginning_of (integer n) = scalar (atom (token.integer n))
beginning_of (float content) = scalar (atom none)
beginning_of (text_string s) = scalar (atom (token.text s))
beginning_of (byte_string b) = scalar (token.bytes b)
beginning_of (link encoded cid) = header.link
beginning_of (list ds) = header.list (item_count ds)
beginning_of (map es) = header.map (entry_count es)

-- what follows that
abbrev content_of : DataItem → List ℕ → List ℕ
content_of (link encoded cid) behind = head Bytes (suc (length encoded)) ++ 0 ∷ (encoded ++ behind)
content_of (list ds) behind = items_encoding ds ++ behind
content_of (map es) behind = entries_encoding es ++ behind
content_of _ behind = behind

plain : (m : Major) (n : ℕ) (content behind : List ℕ) (l : Beginning) (rest : List ℕ) → beginning_at true (head m n ++ (content ++ behind)) ≡ Some (l, rest)
    → beginning_at true ((head m n ++ content) ++ behind) ≡ Some (l, rest)
plain m n content behind l rest e = ap (beginning_at true) (append_assoc (head m n) content behind) ∙ e

item_encoded : (d : DataItem) (behind : List ℕ) → IsDataItem d → beginning_at true (encoding d ++ behind) ≡ Some (beginning_of d, content_of d behind)
item_encoded null behind h = plain_beginning true _ _ _ (item_header_at-head Simple 22 behind (omega arith))
item_encoded (boolean false) behind h = plain_beginning true _ _ _ (item_header_at-head Simple 20 behind (omega arith))
item_encoded (boolean true) behind h = plain_beginning true _ _ _ (item_header_at-head Simple 21 behind (omega arith))
item_encoded (integer (pos n)) behind h = plain_beginning true _ _ _ (item_header_at-head Unsigned n behind h)
item_encoded (integer (negsuc n)) behind h = plain_beginning true _ _ _ (item_header_at-head Negative n behind h)
item_encoded (float content) behind h = float_beginning (251 ∷ content) behind (record { content = content; is = refl; wide = h.0; finite = h.1 })
item_encoded (text_string s) behind h = plain_beginning true _ _ _ (item_header_at-text s behind h.0 h.1)
item_encoded (byte_string b) behind h = plain_beginning true _ _ _ (item_header_at-bytes b behind h)
item_encoded (link encoded cid) behind h =
    let content = head Bytes (suc (length encoded)) ++ 0 ∷ encoded in
    plain Tag 42 content behind header.link (head Bytes (suc (length encoded)) ++ 0 ∷ (encoded ++ behind))
    (ap (λ xs. beginning_at true (head Tag 42 ++ xs)) (append_assoc (head Bytes (suc (length encoded))) (0 ∷ encoded) behind)
    ∙ plain_beginning true _ _ _ (item_header_at-head Tag 42 (head Bytes (suc (length encoded)) ++ 0 ∷ (encoded ++ behind)) (omega arith)))
item_encoded (list ds) behind h =
    plain Array (item_count ds) (items_encoding ds) behind (header.list (item_count ds)) (items_encoding ds ++ behind)
    (plain_beginning true _ _ _ (item_header_at-head Array (item_count ds) (items_encoding ds ++ behind) h.0))
item_encoded (map es) behind h =
    plain Map (entry_count es) (entries_encoding es) behind (header.map (entry_count es)) (entries_encoding es ++ behind)
    (plain_beginning true _ _ _ (item_header_at-head Map (entry_count es) (entries_encoding es ++ behind) h.0))

-- ---- what was read

abbrev beginning_of_head : ItemHead → Beginning
beginning_of_head begin.Null = scalar (atom none)
beginning_of_head (begin.Bool b) = scalar (atom (token.boolean b))
beginning_of_head (begin.Integer n) = scalar (atom (token.integer n))
beginning_of_head (begin.Float bits) = scalar (atom none)
beginning_of_head (begin.Str s) = scalar (atom (token.text s.now))
beginning_of_head (begin.Bytes b) = scalar (token.bytes b.now)
beginning_of_head (begin.Link b) = header.link
beginning_of_head (begin.List n) = header.list n
beginning_of_head (begin.Map n) = header.map n

abbrev after_head : ItemHead → List ℕ → List ℕ
after_head (begin.Link b) rest = head Bytes (suc (length b.now)) ++ 0 ∷ (b.now ++ rest)
after_head _ rest = rest

-- by one head alone
headed : (m : Major) (n : ℕ) (bytes : List ℕ) (more : List ℕ) (l : Beginning) (rest : List ℕ) → bytes ≡ head m n ++ more → beginning_at true (head m n ++ more) ≡ Some (l, rest)
    → beginning_at true bytes ≡ Some (l, rest)
headed m n bytes more l rest is e = ap (beginning_at true) is ∙ e

head_begins : (h : ItemHead) (bytes rest : List ℕ) → BeginsWith h bytes rest → beginning_at true bytes ≡ Some (beginning_of_head h, after_head h rest)
head_begins begin.Null bytes rest b = headed Simple 22 bytes rest _ _ b (plain_beginning true _ _ _ (item_header_at-head Simple 22 rest (omega arith)))
head_begins (begin.Bool false) bytes rest b = headed Simple 20 bytes rest _ _ b (plain_beginning true _ _ _ (item_header_at-head Simple 20 rest (omega arith)))
head_begins (begin.Bool true) bytes rest b = headed Simple 21 bytes rest _ _ b (plain_beginning true _ _ _ (item_header_at-head Simple 21 rest (omega arith)))
head_begins (begin.Integer (pos n)) bytes rest b = headed Unsigned n bytes rest _ _ b.1 (plain_beginning true _ _ _ (item_header_at-head Unsigned n rest b.0))
head_begins (begin.Integer (negsuc n)) bytes rest b = headed Negative n bytes rest _ _ b.1 (plain_beginning true _ _ _ (item_header_at-head Negative n rest b.0))
head_begins (begin.Float bits) bytes rest b =
    let f = b.2 in
    ap (beginning_at true) (b.1 ∙ ap (λ xs. 251 ∷ xs) f.4) ∙ float_beginning (251 ∷ f.0) rest (record { content = f.0; is = refl; wide = f.1; finite = f.2 })
head_begins (begin.Str s) bytes rest b =
    ap (beginning_at true) (b.2 ∙ sym (append_assoc (head Text (length s.now)) s.now rest)) ∙ plain_beginning true _ _ _ (item_header_at-text s.now rest b.0 b.1)
head_begins (begin.Bytes c) bytes rest b =
    ap (beginning_at true) (b.1 ∙ sym (append_assoc (head Bytes (length c.now)) c.now rest)) ∙ plain_beginning true _ _ _ (item_header_at-bytes c.now rest b.0)
head_begins (begin.Link c) bytes rest b =
    let more = head Bytes (suc (length c.now)) ++ 0 ∷ (c.now ++ rest) in
    headed Tag 42 bytes more _ _ b.1 (plain_beginning true _ _ _ (item_header_at-head Tag 42 more (omega arith)))
head_begins (begin.List n) bytes rest b = headed Array n bytes rest _ _ b.1 (plain_beginning true _ _ _ (item_header_at-head Array n rest b.0))
head_begins (begin.Map n) bytes rest b = headed Map n bytes rest _ _ b.1 (plain_beginning true _ _ _ (item_header_at-head Map n rest b.0))

-- ---- one and the same

same_front : (n : ℕ) (a b r s : List ℕ) → length a ≡ n → length b ≡ n → a ++ r ≡ b ++ s → (a ≡ b) × (r ≡ s)
same_front n a b r s p q e =
    let one : List ℕ × List ℕ = (a, r) in
    let other : List ℕ × List ℕ = (b, s) in
    let both : Some one ≡ Some other = sym (front-append a r n p) ∙ ap (front n) e ∙ front-append b s n q in
    let same : one ≡ other = cc both in
    (ap (λ (x : List ℕ × List ℕ). x.0) same, ap (λ (x : List ℕ × List ℕ). x.1) same)

no_float : {A : Type 0} (content rest behind : List ℕ) → head Simple 22 ++ rest ≡ 251 ∷ (content ++ behind) → A
unfolding head
no_float content rest behind e = absurd (let first : 246 ≡ 251 = ap (λ xs. get_or xs 0 0) e in omega arith)

module _ (rest behind : List ℕ) where
  is_null : (d : DataItem) → beginning_of d ≡ scalar (atom none) → content_of d behind ≡ rest → head Simple 22 ++ rest ≡ encoding d ++ behind → (d ≡ null) × (rest ≡ behind)
  is_null null e f is = (refl, sym f)
  is_null (float content) e f is = no_float content rest behind is
  is_null _ e f is = absurd cc

  is_boolean : (d : DataItem) (b : Bool) → beginning_of d ≡ scalar (atom (token.boolean b)) → content_of d behind ≡ rest → (d ≡ boolean b) × (rest ≡ behind)
  is_boolean (boolean a) b e f = (cc e, sym f)
  is_boolean _ b e f = absurd cc

  is_integer : (d : DataItem) (n : ℤ) → beginning_of d ≡ scalar (atom (token.integer n)) → content_of d behind ≡ rest → (d ≡ integer n) × (rest ≡ behind)
  is_integer (integer a) n e f = (cc e, sym f)
  is_integer _ n e f = absurd cc

  is_text : (d : DataItem) (s : List ℕ) → beginning_of d ≡ scalar (atom (token.text s)) → content_of d behind ≡ rest → (d ≡ text_string s) × (rest ≡ behind)
  is_text (text_string a) s e f = (cc e, sym f)
  is_text _ s e f = absurd cc

  is_bytes : (d : DataItem) (b : List ℕ) → beginning_of d ≡ scalar (token.bytes b) → content_of d behind ≡ rest → (d ≡ byte_string b) × (rest ≡ behind)
  is_bytes (byte_string a) b e f = (cc e, sym f)
  is_bytes _ b e f = absurd cc

  is_list : (d : DataItem) (n : ℕ) → beginning_of d ≡ header.list n → content_of d behind ≡ rest → IsHeadOf (begin.List n) d rest behind
  is_list (list ds) n e f = (ds, refl, cc e, sym f)
  is_list _ n e f = absurd cc

  is_map : (d : DataItem) (n : ℕ) → beginning_of d ≡ header.map n → content_of d behind ≡ rest → IsHeadOf (begin.Map n) d rest behind
  is_map (map es) n e f = (es, refl, cc e, sym f)
  is_map _ n e f = absurd cc

  is_float : (d : DataItem) (bits : ℕ) (content : List ℕ) → beginning_of d ≡ scalar (atom none) → content_of d behind ≡ rest → IsDataItem d → length content ≡ 8 → bits ≡ from_be_bytes w64 content
      → 251 ∷ (content ++ rest) ≡ encoding d ++ behind → IsHeadOf (begin.Float bits) d rest behind
  is_float null bits content e f h wide same is = no_float content behind rest (sym is)
  is_float (float c) bits content e f h wide same is =
      let tails : content ++ rest ≡ c ++ behind = cc is in
      let p = same_front 8 content c rest behind wide h.0 tails in
      (c, refl, same ∙ ap (from_be_bytes w64) p.0, p.1)
  is_float _ bits content e f h wide same is = absurd cc

  link_same : (a b : List ℕ) → suc (length a) < 2 ^ 64 → suc (length b) < 2 ^ 64 → head Bytes (suc (length a)) ++ 0 ∷ (a ++ behind) ≡ head Bytes (suc (length b)) ++ 0 ∷ (b ++ rest)
      → (a ≡ b) × (behind ≡ rest)
  link_same a b p q e =
      let one : Major × ℕ × List ℕ = (Bytes, suc (length a), 0 ∷ (a ++ behind)) in
      let other : Major × ℕ × List ℕ = (Bytes, suc (length b), 0 ∷ (b ++ rest)) in
      let both : Some one ≡ Some other = sym (head_at-head Bytes (suc (length a)) (0 ∷ (a ++ behind)) p) ∙ ap head_at e ∙ head_at-head Bytes (suc (length b)) (0 ∷ (b ++ rest)) q in
      let same : one ≡ other = cc both in
      let lengths : suc (length a) ≡ suc (length b) = ap (λ (x : Major × ℕ × List ℕ). x.1) same in
      let tails : 0 ∷ (a ++ behind) ≡ 0 ∷ (b ++ rest) = ap (λ (x : Major × ℕ × List ℕ). x.2) same in
      same_front (length b) a b behind rest (omega arith) refl (cc tails)

  is_link : (d : DataItem) (b : List ℕ) → beginning_of d ≡ header.link → IsDataItem d → suc (length b) < 2 ^ 64 → content_of d behind ≡ head Bytes (suc (length b)) ++ 0 ∷ (b ++ rest)
      → (cid : Link) × (d ≡ link b cid) × (rest ≡ behind)
  is_link (link a cid) b e h lt f =
      let p = link_same a b h.0 lt f in
      (cid, ap (λ xs. link xs cid) p.0, sym p.1)
  is_link _ b e h lt f = absurd cc

module _ (d : DataItem) (bytes behind : List ℕ) (b : BeginsWithItem d bytes behind) where
  item_begins : beginning_at true bytes ≡ Some (beginning_of d, content_of d behind)
  item_begins = ap (beginning_at true) b.encoded ∙ item_encoded d behind b.is_item

  module _ (h : ItemHead) (rest : List ℕ) (r : BeginsWith h bytes rest) where
    same : ◌≡◌ {A = Beginning × List ℕ} (beginning_of d, content_of d behind) (beginning_of_head h, after_head h rest)
    same =
        let both : ◌≡◌ {A = Rattle.std.proofs.Common.Option (Beginning × List ℕ)} (Some (beginning_of d, content_of d behind)) (Some (beginning_of_head h, after_head h rest)) = sym item_begins ∙ head_begins h bytes rest r in
        cc both

    same_beginning : beginning_of d ≡ beginning_of_head h
    same_beginning = ap (λ (x : Beginning × List ℕ). x.0) same

    same_content : content_of d behind ≡ after_head h rest
    same_content = ap (λ (x : Beginning × List ℕ). x.1) same

  -- what was read is the head of the item
  pub head_is : (h : ItemHead) (rest : List ℕ) → BeginsWith h bytes rest → IsHeadOf h d rest behind
  head_is begin.Null rest r = is_null rest behind d (same_beginning begin.Null rest r) (same_content begin.Null rest r) (sym r ∙ b.encoded)
  head_is (begin.Bool a) rest r = is_boolean rest behind d a (same_beginning (begin.Bool a) rest r) (same_content (begin.Bool a) rest r)
  head_is (begin.Integer n) rest r = is_integer rest behind d n (same_beginning (begin.Integer n) rest r) (same_content (begin.Integer n) rest r)
  head_is (begin.Float bits) rest r =
      let f = r.2 in
      is_float rest behind d bits f.0 (same_beginning (begin.Float bits) rest r) (same_content (begin.Float bits) rest r) b.is_item f.1 f.3 (sym (r.1 ∙ ap (λ xs. 251 ∷ xs) f.4) ∙ b.encoded)
  head_is (begin.Str s) rest r = is_text rest behind d s.now (same_beginning (begin.Str s) rest r) (same_content (begin.Str s) rest r)
  head_is (begin.Bytes c) rest r = is_bytes rest behind d c.now (same_beginning (begin.Bytes c) rest r) (same_content (begin.Bytes c) rest r)
  head_is (begin.Link c) rest r = is_link rest behind d c.now (same_beginning (begin.Link c) rest r) b.is_item r.0 (same_content (begin.Link c) rest r)
  head_is (begin.List n) rest r = is_list rest behind d n (same_beginning (begin.List n) rest r) (same_content (begin.List n) rest r)
  head_is (begin.Map n) rest r = is_map rest behind d n (same_beginning (begin.Map n) rest r) (same_content (begin.Map n) rest r)

-- ---- no error is reported

link_bytes_encoded : (encoded behind : List ℕ) → suc (length encoded) < 2 ^ 64 → link_bytes_at (head Bytes (suc (length encoded)) ++ 0 ∷ (encoded ++ behind)) ≡ Some (encoded, behind)
unfolding link_bytes_at
link_bytes_encoded encoded behind lt =
    ap link_bytes_of_head (head_at-head Bytes (suc (length encoded)) (0 ∷ (encoded ++ behind)) lt) ∙ ap behind_zero (front-append (0 ∷ encoded) behind (suc (length encoded)) refl)

no_link_error : (d : DataItem) (behind rest : List ℕ) → IsDataItem d → beginning_of d ≡ header.link → content_of d behind ≡ rest → link_bytes_at rest ≡ None → ⊥
no_link_error (link encoded cid) behind rest h e f n =
    let no : Some (encoded, behind) ≡ None = sym (link_bytes_encoded encoded behind h.0) ∙ ap link_bytes_at f ∙ n in
    cc no
no_link_error _ behind rest h e f n = cc e

-- an item is read where the bytes begin with one
pub no_error : (d : DataItem) (bytes behind : List ℕ) (error : CborError) → BeginsWithItem d bytes behind → RejectsItem error bytes → ⊥
no_error d bytes behind error b (inl r) =
    let no : Some (beginning_of d, content_of d behind) ≡ None = sym (item_begins d bytes behind b) ∙ r.0 in
    cc no
no_error d bytes behind error b (inr r) =
    let one : Beginning × List ℕ = (beginning_of d, content_of d behind) in
    let other : Beginning × List ℕ = (header.link, r.0) in
    let both : Some one ≡ Some other = sym (item_begins d bytes behind b) ∙ r.1 in
    let same : one ≡ other = cc both in
    no_link_error d behind r.0 b.is_item (ap (λ (x : Beginning × List ℕ). x.0) same) (ap (λ (x : Beginning × List ℕ). x.1) same) r.2

-- ---- keys

module _ (s bytes more : List ℕ) (h : IsString s) (is : bytes ≡ string_encoding s ++ more) where
  key_read : key_at bytes ≡ Some (s, more)
  key_read = ap key_at is ∙ key_at-text s more h.0 h.1

  -- the key that was read is that of the entry
  pub key_is : (k rest : List ℕ) → BeginsWithKey k bytes rest → (k ≡ s) × (rest ≡ more)
  key_is k rest b =
      let one : List ℕ × List ℕ = (k, rest) in
      let other : List ℕ × List ℕ = (s, more) in
      let both : Some one ≡ Some other =
      sym (key_at-text k rest b.0 b.1) ∙ ap key_at (append_assoc (head Text (length k)) k rest ∙ sym b.2) ∙ key_read in
      let same : one ≡ other = cc both in
      (ap (λ (x : List ℕ × List ℕ). x.0) same, ap (λ (x : List ℕ × List ℕ). x.1) same)

  pub no_key_error : (error : CborError) → RejectsKey error bytes → ⊥
  no_key_error error r = let no : Some (s, more) ≡ None = sym key_read ∙ r.0 in cc no

-- ---- one item alone

abbrev Same : DataItem → DataItem → List ℕ → List ℕ → Type 0
Same d e rest behind = (d ≡ e) × (rest ≡ behind)

both : (d e : DataItem) (block rest behind : List ℕ) → BeginsWithItem d block rest → BeginsWithItem e block behind → (beginning_of e ≡ beginning_of d) × (content_of e behind ≡ content_of d rest)
both d e block rest behind b g =
    let one : Beginning × List ℕ = (beginning_of e, content_of e behind) in
    let other : Beginning × List ℕ = (beginning_of d, content_of d rest) in
    let found : Some one ≡ Some other = sym (item_begins e block behind g) ∙ item_begins d block rest b in
    let equal : one ≡ other = cc found in
    (ap (λ (x : Beginning × List ℕ). x.0) equal, ap (λ (x : Beginning × List ℕ). x.1) equal)

float_once : (content : List ℕ) (e : DataItem) (rest behind : List ℕ) → length content ≡ 8 → beginning_of e ≡ scalar (atom none) → content_of e behind ≡ rest → IsDataItem e
    → 251 ∷ (content ++ rest) ≡ encoding e ++ behind → Same (float content) e rest behind
float_once content null rest behind wide s f h is = no_float content behind rest (sym is)
float_once content (float c) rest behind wide s f h is =
    let tails : content ++ rest ≡ c ++ behind = cc is in
    let p = same_front 8 content c rest behind wide h.0 tails in
    (ap float p.0, p.1)
float_once content _ rest behind wide s f h is = absurd cc

link_once : (c : List ℕ) (cid : Link) (e : DataItem) (rest behind : List ℕ) → IsDataItem (link c cid) → beginning_of e ≡ header.link → IsDataItem e
    → content_of e behind ≡ head Bytes (suc (length c)) ++ 0 ∷ (c ++ rest) → Same (link c cid) e rest behind
link_once c cid (link a other) rest behind h s g f =
    let p = link_same rest behind a c g.0 h.0 f in
    let same : cid ≡ other = one_meaning 64 c cid other h.1 (subst (λ x. IsCid 64 x other) p.0 g.1) in
    (ap₂ link (sym p.0) same, sym p.1)
link_once c cid _ rest behind h s g f = absurd cc

key_once : (j k : List ℕ) (rest behind : List ℕ) → IsString j → IsString k → string_encoding j ++ rest ≡ string_encoding k ++ behind → (j ≡ k) × (rest ≡ behind)
key_once j k rest behind h g e =
    let one : List ℕ × List ℕ = (j, rest) in
    let other : List ℕ × List ℕ = (k, behind) in
    let found : Some one ≡ Some other = sym (key_at-text j rest h.0 h.1) ∙ ap key_at e ∙ key_at-text k behind g.0 g.1 in
    let equal : one ≡ other = cc found in
    (ap (λ (x : List ℕ × List ℕ). x.0) equal, ap (λ (x : List ℕ × List ℕ). x.1) equal)

pub apart : (k : List ℕ) (d : DataItem) (es : DataEntries) (rest : List ℕ) → entries_encoding (entry k d es) ++ rest ≡ string_encoding k ++ (encoding d ++ (entries_encoding es ++ rest))
apart k d es rest =
    append_assoc (string_encoding k) (encoding d ++ entries_encoding es) rest ∙ ap (λ xs. string_encoding k ++ xs) (append_assoc (encoding d) (entries_encoding es) rest)

mutual
  item_once : (d e : DataItem) (block rest behind : List ℕ) → BeginsWithItem d block rest → BeginsWithItem e block behind → Same d e rest behind
  item_once null e block rest behind b g =
      let s = both null e block rest behind b g in
      let p = is_null rest behind e s.0 s.1 (sym b.encoded ∙ g.encoded) in
      (sym p.0, p.1)
  item_once (boolean x) e block rest behind b g =
      let s = both (boolean x) e block rest behind b g in
      let p = is_boolean rest behind e x s.0 s.1 in
      (sym p.0, p.1)
  item_once (integer n) e block rest behind b g =
      let s = both (integer n) e block rest behind b g in
      let p = is_integer rest behind e n s.0 s.1 in
      (sym p.0, p.1)
  item_once (float content) e block rest behind b g =
      let s = both (float content) e block rest behind b g in
      float_once content e rest behind b.is_item.0 s.0 s.1 g.is_item (sym b.encoded ∙ g.encoded)
  item_once (text_string t) e block rest behind b g =
      let s = both (text_string t) e block rest behind b g in
      let p = is_text rest behind e t s.0 s.1 in
      (sym p.0, p.1)
  item_once (byte_string c) e block rest behind b g =
      let s = both (byte_string c) e block rest behind b g in
      let p = is_bytes rest behind e c s.0 s.1 in
      (sym p.0, p.1)
  item_once (link c cid) e block rest behind b g =
      let s = both (link c cid) e block rest behind b g in
      link_once c cid e rest behind b.is_item s.0 g.is_item s.1
  item_once (list ds) e block rest behind b g =
      let s = both (list ds) e block rest behind b g in
      let p = is_list (items_encoding ds ++ rest) behind e (item_count ds) s.0 s.1 in
      let h : IsDataItem (list p.0) = subst IsDataItem p.1 g.is_item in
      let q = items_once ds p.0 rest behind b.is_item.1 h.1 p.2 p.3 in
      (ap list q.0 ∙ sym p.1, q.1)
  item_once (map es) e block rest behind b g =
      let s = both (map es) e block rest behind b g in
      let p = is_map (entries_encoding es ++ rest) behind e (entry_count es) s.0 s.1 in
      let h : IsDataItem (map p.0) = subst IsDataItem p.1 g.is_item in
      let q = entries_once es p.0 rest behind b.is_item.1 h.1 p.2 p.3 in
      (ap map q.0 ∙ sym p.1, q.1)

  items_once : (ds es : DataItems) (rest behind : List ℕ) → AreDataItems ds → AreDataItems es → item_count ds ≡ item_count es → items_encoding ds ++ rest ≡ items_encoding es ++ behind
      → (ds ≡ es) × (rest ≡ behind)
  items_once no_items no_items rest behind h g n e = (refl, e)
  items_once no_items (item d es) rest behind h g n e = absurd (omega arith)
  items_once (item d ds) no_items rest behind h g n e = absurd (omega arith)
  items_once (item d ds) (item c es) rest behind h g n e =
      let block = items_encoding (item d ds) ++ rest in
      let first = item_once d c block (items_encoding ds ++ rest) (items_encoding es ++ behind)
      (record { is_item = h.0; encoded = append_assoc (encoding d) (items_encoding ds) rest })
      (record { is_item = g.0; encoded = e ∙ append_assoc (encoding c) (items_encoding es) behind }) in
      let more = items_once ds es rest behind h.1 g.1 (omega arith) first.1 in
      (ap₂ item first.0 more.0, more.1)

  entries_once : (ds es : DataEntries) (rest behind : List ℕ) → AreDataEntries ds → AreDataEntries es → entry_count ds ≡ entry_count es → entries_encoding ds ++ rest ≡ entries_encoding es ++ behind
      → (ds ≡ es) × (rest ≡ behind)
  entries_once no_entries no_entries rest behind h g n e = (refl, e)
  entries_once no_entries (entry k c es) rest behind h g n e = absurd (omega arith)
  entries_once (entry j d ds) no_entries rest behind h g n e = absurd (omega arith)
  entries_once (entry j d ds) (entry k c es) rest behind h g n e =
      let keys = key_once j k (encoding d ++ (entries_encoding ds ++ rest)) (encoding c ++ (entries_encoding es ++ behind)) h.0 g.0
      (sym (apart j d ds rest) ∙ e ∙ apart k c es behind) in
      let block = encoding d ++ (entries_encoding ds ++ rest) in
      let first = item_once d c block (entries_encoding ds ++ rest) (entries_encoding es ++ behind)
      (record { is_item = h.1; encoded = refl }) (record { is_item = g.1; encoded = keys.1 }) in
      let more = entries_once ds es rest behind h.2 g.2 (omega arith) first.1 in
      (ap (λ x. entry x d ds) keys.0 ∙ ap₂ (λ x xs. entry k x xs) first.0 more.0, more.1)

-- bytes begin with no two items
pub once : (d e : DataItem) (block rest behind : List ℕ) → BeginsWithItem d block rest → BeginsWithItem e block behind → d ≡ e
once d e block rest behind b g = (item_once d e block rest behind b g).0
