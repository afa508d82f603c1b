-- The error of a block is one of its bytes.
use Rattle.std.proofs.Common.{◌≡◌, ◌/◌, ◌%◌, ℕ, zero, suc, Bool, true, false, cond, ltb, eqb, List, [], ◌∷◌, length, Option, Some, None, Result, Ok, Err, IfSome, refl, sym, ap, subst, ◌∙◌}
use Rattle.std.specs.Prelude.{◌↔◌, ◌&&◌}
use Rattle.std.specs.Int.{Width, w16, w32, w64, byte_len}
use Rattle.ipld_cid.specs.Cid.{Link}
use Rattle.ipld_cid.specs.Bytes.{read_cid}
use Rattle.ipld_cid.specs.declared.error.CidError.{CidError}
use Rattle.ipld_tree.specs.Tree.{Tree}
use Rattle.dag_cbor_format.specs.declared.error.CborError.{CborError}
use Rattle.dag_cbor_format.specs.declared.error.CborError.TheVariants.{DuplicateKey}
use Rattle.dag_cbor_format.specs.declared.major.Major.{Major}
use Rattle.dag_cbor_format.specs.declared.major.Major.TheVariants.{Unsigned, Negative, Bytes, Text, List as Array, Map, Tag, Simple}
use Rattle.dag_cbor_format.specs.ErrorKinds.{lies_in_bytes}
use Rattle.dag_cbor_format.specs.HeadReading.{major_at, head_at}
use Rattle.dag_cbor_format.specs.Encoding.{EncodesTree}
use Rattle.dag_cbor_format.specs.ItemHeader.{Beginning, scalar, list, map, link, front, key_at, link_at}
use Rattle.dag_cbor_format.specs.Errors.{byte_error, wide_error, argument_error, simple_error, error_of_argument, head_error, text_error, item_error, item_header_error_of, item_header_error, text_key_error, key_error_of, key_error, cid_error, content_error, bytes_error, link_error_of, link_error}
use Rattle.dag_cbor_format.specs.Floats.{has_float_head, error_of_float, float_error, beginning_at, beginning_error}
use Rattle.dag_cbor_format.specs.WithFloats.{EncodesTreeIn}
use Rattle.dag_cbor_format.specs.Reading.{Frame, one, many, pairs, value, mark, Out, ended, rejected, yields, begin, begun, among, after_key, after_link, end_step, step_in, step, Ran}
use Rattle.dag_cbor_format.specs.FirstError.{first_error}
use Rattle.dag_cbor_format.specs.Trace.{Trace, traced, trace, error_in}
use Rattle.dag_cbor_format.proofs.ItemHeaderLaws.{CidLaws}
use Rattle.dag_cbor_format.proofs.Running.{weight, trace_is, erased_block}
use Rattle.dag_cbor_format.proofs.Complete.{over_block, over_block_in}
use Rattle.dag_cbor_format.proofs.Sound.{encodes_tree, encodes_tree_in}

abbrev Lies : CborError → Type 0
Lies error = lies_in_bytes error ≡ true

either_lies : (b : Bool) (x y : CborError) → Lies x → Lies y → Lies (cond b x y)
either_lies true x y h k = h
either_lies false x y h k = k

-- ---- heads

byte_lies : (bytes : List ℕ) → Lies (byte_error bytes)
byte_lies [] = refl
byte_lies (b ∷ rest) = refl

wide_lies : (w : Width) (bytes : List ℕ) → Lies (wide_error w bytes)
wide_lies w bytes = either_lies (ltb (length bytes) (byte_len w)) _ _ refl refl

argument_lies : (additional : ℕ) (bytes : List ℕ) → Lies (argument_error additional bytes)
unfolding argument_error
argument_lies additional bytes =
    either_lies (eqb additional 24) _ _ (byte_lies bytes)
    (either_lies (eqb additional 25) _ _ (wide_lies w16 bytes)
    (either_lies (eqb additional 26) _ _ (wide_lies w32 bytes) (either_lies (eqb additional 27) _ _ (wide_lies w64 bytes) refl)))

simple_lies : (additional : ℕ) → Lies (simple_error additional)
simple_lies additional = either_lies (ltb additional 25) _ _ refl (either_lies (ltb additional 28) _ _ refl refl)

argument_of_lies : (m : Major) (additional : ℕ) (bytes : List ℕ) → Lies (error_of_argument m additional bytes)
argument_of_lies Unsigned additional bytes = argument_lies additional bytes
argument_of_lies Negative additional bytes = argument_lies additional bytes
argument_of_lies Bytes additional bytes = argument_lies additional bytes
argument_of_lies Text additional bytes = argument_lies additional bytes
argument_of_lies Array additional bytes = argument_lies additional bytes
argument_of_lies Map additional bytes = argument_lies additional bytes
argument_of_lies Tag additional bytes = argument_lies additional bytes
argument_of_lies Simple additional bytes = simple_lies additional

head_lies : (bytes : List ℕ) → Lies (head_error bytes)
unfolding head_error
head_lies [] = refl
head_lies (first ∷ bytes) = argument_of_lies (major_at (first / 32)) (first % 32) bytes

-- ---- what follows a head

text_lies : (o : Option (List ℕ × List ℕ)) → Lies (text_error o)
text_lies None = refl
text_lies (Some cut) = refl

item_lies : (m : Major) (n : ℕ) (rest : List ℕ) → Lies (item_error m n rest)
item_lies Unsigned n rest = refl
item_lies Negative n rest = refl
item_lies Bytes n rest = refl
item_lies Text n rest = text_lies (front n rest)
item_lies Array n rest = refl
item_lies Map n rest = refl
item_lies Tag n rest = refl
item_lies Simple n rest = refl

item_header_of_lies : (bytes : List ℕ) (o : Option (Major × ℕ × List ℕ)) → Lies (item_header_error_of bytes o)
item_header_of_lies bytes None = head_lies bytes
item_header_of_lies bytes (Some (m, n, rest)) = item_lies m n rest

item_header_lies : (bytes : List ℕ) → Lies (item_header_error bytes)
unfolding item_header_error
item_header_lies bytes = item_header_of_lies bytes (head_at bytes)

float_of_lies : (o : Option (List ℕ × List ℕ)) → Lies (error_of_float o)
float_of_lies None = refl
float_of_lies (Some cut) = refl

float_lies : (bytes : List ℕ) → Lies (float_error bytes)
float_lies [] = refl
float_lies (b ∷ bs) = float_of_lies (front 8 bs)

beginning_lies : (floats : Bool) (bytes : List ℕ) → Lies (beginning_error floats bytes)
beginning_lies floats bytes = either_lies (floats && has_float_head bytes) _ _ (float_lies bytes) (item_header_lies bytes)

text_key_lies : (m : Major) (n : ℕ) (rest : List ℕ) → Lies (text_key_error m n rest)
text_key_lies Unsigned n rest = refl
text_key_lies Negative n rest = refl
text_key_lies Bytes n rest = refl
text_key_lies Text n rest = text_lies (front n rest)
text_key_lies Array n rest = refl
text_key_lies Map n rest = refl
text_key_lies Tag n rest = refl
text_key_lies Simple n rest = refl

key_of_lies : (bytes : List ℕ) (o : Option (Major × ℕ × List ℕ)) → Lies (key_error_of bytes o)
key_of_lies bytes None = head_lies bytes
key_of_lies bytes (Some (m, n, rest)) = text_key_lies m n rest

key_lies : (bytes : List ℕ) → Lies (key_error bytes)
unfolding key_error
key_lies bytes = key_of_lies bytes (head_at bytes)

cid_lies : (r : Result Link CidError) → Lies (cid_error r)
cid_lies (Ok cid) = refl
cid_lies (Err error) = refl

content_lies : (o : Option (List ℕ × List ℕ)) → Lies (content_error o)
content_lies None = refl
content_lies (Some ([], rest)) = refl
content_lies (Some (zero ∷ encoded, rest)) = cid_lies (read_cid 64 encoded)
content_lies (Some (suc b ∷ encoded, rest)) = refl

bytes_lies : (m : Major) (n : ℕ) (rest : List ℕ) → Lies (bytes_error m n rest)
bytes_lies Unsigned n rest = refl
bytes_lies Negative n rest = refl
bytes_lies Bytes n rest = content_lies (front n rest)
bytes_lies Text n rest = refl
bytes_lies Array n rest = refl
bytes_lies Map n rest = refl
bytes_lies Tag n rest = refl
bytes_lies Simple n rest = refl

link_of_lies : (bytes : List ℕ) (o : Option (Major × ℕ × List ℕ)) → Lies (link_error_of bytes o)
link_of_lies bytes None = head_lies bytes
link_of_lies bytes (Some (m, n, rest)) = bytes_lies m n rest

link_lies : (bytes : List ℕ) → Lies (link_error bytes)
unfolding link_error
link_lies bytes = link_of_lies bytes (head_at bytes)

-- ---- steps

abbrev IfRejected : Out → Type 0
IfRejected ended = Unit {0}
IfRejected (rejected error) = Lies error
IfRejected (yields t fs bs) = Unit {0}

begin_lies : (fs : List Frame) (l : Beginning) (rest : List ℕ) → IfRejected (begin fs l rest)
begin_lies fs (scalar t) rest = tt
begin_lies fs (list n) rest = tt
begin_lies fs (map n) rest = tt
begin_lies fs link rest = tt

begun_lies : (fs : List Frame) (error : CborError) (o : Option (Beginning × List ℕ)) → Lies error → IfRejected (begun fs error o)
begun_lies fs error None h = h
begun_lies fs error (Some (l, rest)) h = begin_lies fs l rest

again_lies : (b : Bool) (o : Out) → IfRejected o → IfRejected (cond b (rejected DuplicateKey) o)
again_lies true o h = refl
again_lies false o h = h

after_key_lies : (n : ℕ) (seen : List (List ℕ)) (fs : List Frame) (error : CborError) (o : Option (List ℕ × List ℕ)) → Lies error → IfRejected (after_key n seen fs error o)
after_key_lies n seen fs error None h = h
after_key_lies n seen fs error (Some (k, rest)) h = again_lies (among k seen) _ tt

after_link_lies : (fs : List Frame) (error : CborError) (o : Option (List ℕ × List ℕ)) → Lies error → IfRejected (after_link fs error o)
after_link_lies fs error None h = h
after_link_lies fs error (Some (b, rest)) h = tt

end_lies : (bs : List ℕ) → IfRejected (end_step bs)
end_lies [] = tt
end_lies (b ∷ bs) = refl

step_lies : (floats : Bool) (fs : List Frame) (bs : List ℕ) → IfRejected (step_in floats fs bs)
step_lies floats [] bs = end_lies bs
step_lies floats (one ∷ fs) bs = begun_lies fs (beginning_error floats bs) (beginning_at floats bs) (beginning_lies floats bs)
step_lies floats (many zero ∷ fs) bs = tt
step_lies floats (many (suc n) ∷ fs) bs = begun_lies (many n ∷ fs) (beginning_error floats bs) (beginning_at floats bs) (beginning_lies floats bs)
step_lies floats (pairs zero seen ∷ fs) bs = tt
step_lies floats (pairs (suc n) seen ∷ fs) bs = after_key_lies n seen fs (key_error bs) (key_at bs) (key_lies bs)
step_lies floats (value n seen ∷ fs) bs = begun_lies (pairs n seen ∷ fs) (beginning_error floats bs) (beginning_at floats bs) (beginning_lies floats bs)
step_lies floats (mark ∷ fs) bs = after_link_lies fs (link_error bs) (link_at bs) (link_lies bs)

rejection_lies : (o : Out) (error : CborError) → IfRejected o → o ≡ rejected error → Lies error
rejection_lies o error h e = subst IfRejected e h

-- what a step rejects, it rejects for the bytes
pub rejected_lies : (fs : List Frame) (bs : List ℕ) (error : CborError) → step fs bs ≡ rejected error → lies_in_bytes error ≡ true
rejected_lies fs bs error e = rejection_lies (step fs bs) error (step_lies false fs bs) e

-- ---- blocks

traced_lies : (floats : Bool) (k left : ℕ) (o : Out) → IfRejected o → ((fs : List Frame) (bs : List ℕ) → IfSome (trace floats k fs bs).error Lies) → IfSome (traced left (trace floats k) o).error Lies
traced_lies floats k left ended h more = tt
traced_lies floats k left (rejected error) h more = h
traced_lies floats k left (yields t fs bs) h more = more fs bs

trace_lies : (floats : Bool) (k : ℕ) (fs : List Frame) (bs : List ℕ) → IfSome (trace floats k fs bs).error Lies
trace_lies floats zero fs bs = refl
trace_lies floats (suc k) fs bs = traced_lies floats k (length bs) (step_in floats fs bs) (step_lies floats fs bs) (trace_lies floats k)

-- the error of a block lies in its bytes
pub error_in_lies : (floats : Bool) (block : List ℕ) (error : CborError) → error_in floats block ≡ Some error → lies_in_bytes error ≡ true
unfolding error_in
error_in_lies floats block error e =
    let same = ap (λ (t : Trace). t.error) (trace_is floats (one ∷ []) block) ∙ e in
    let found : IfSome (trace floats (suc (weight (one ∷ []) block)) (one ∷ []) block).error Lies = trace_lies floats (suc (weight (one ∷ []) block)) (one ∷ []) block in
    rw same at found

pub first_error_is : (block : List ℕ) → first_error block ≡ error_in false block
unfolding first_error error_in
first_error_is block = sym (ap (λ (r : Ran). r.error) (erased_block block))

pub error_lies : (block : List ℕ) (error : CborError) → first_error block ≡ Some error → lies_in_bytes error ≡ true
error_lies block error e = error_in_lies false block error (sym (first_error_is block) ∙ e)

-- bytes have an error, or they encode a tree
pub no_error_in : CidLaws → (floats : Bool) (block : List ℕ) → (error_in floats block ≡ None) ↔ ((t : Tree) × EncodesTreeIn floats t block)
unfolding error_in
no_error_in laws floats block =
    (λ e. encodes_tree_in laws floats block e, λ s. ap (λ (t : Trace). t.error) (over_block_in laws floats s.1.0 s.0 block s.1.1 s.1.2).is)

pub no_error : CidLaws → (block : List ℕ) → (first_error block ≡ None) ↔ ((t : Tree) × EncodesTree t block)
unfolding first_error
no_error laws block = (λ e. encodes_tree laws block e, λ s. (over_block laws s.1.0 s.0 block s.1.1 s.1.2).1)

-- where a tree is encoded there is no error
pub error_in_or_tree : CidLaws → (floats : Bool) (block : List ℕ) (error : CborError) → error_in floats block ≡ Some error → (t : Tree) → EncodesTreeIn floats t block → ⊥
error_in_or_tree laws floats block error e t s =
    let x : Some error ≡ None = sym e ∙ (no_error_in laws floats block).1 (t, s) in absurd (cc x)

pub error_or_tree : CidLaws → (block : List ℕ) (error : CborError) → first_error block ≡ Some error → (t : Tree) → EncodesTree t block → ⊥
error_or_tree laws block error e t s =
    let x : Some error ≡ None = sym e ∙ (no_error laws block).1 (t, s) in absurd (cc x)
