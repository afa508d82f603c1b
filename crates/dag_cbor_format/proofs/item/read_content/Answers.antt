use Rattle.std.proofs.Common.{◌≡◌, ap, ◌∙◌, ◌++◌, rules, arith}
use Rattle.dag_cbor_format.specs.Head.{head}
use Rattle.dag_cbor_format.specs.declared.major.Major.TheVariants.{Simple}
use Rattle.dag_cbor_format.proofs.ItemHeads.{unsigned_begins, negative_begins, front_shorter, text_shorter, bytes_begin, text_begins, link_begins, link_shorter}
use Rattle.dag_cbor_format.proofs.item.read_content.Goals as goal

pub returns-in-Unsigned : goal.returns-in-Unsigned
returns-in-Unsigned c = rw c.in-Unsigned.is (omega arith, λ bytes fits is. unsigned_begins _ c.args.argument bytes c.args.rest.now (search (c.from.ensures, rules)) fits is)

pub returns-in-Negative : goal.returns-in-Negative
returns-in-Negative c = rw c.in-Negative.is (omega arith, λ bytes fits is. negative_begins _ c.args.argument bytes c.args.rest.now (search (c.from-in-Negative.ensures, rules)) fits is)

pub returns-in_ok-content-in-Bytes : goal.returns-in_ok-content-in-Bytes
returns-in_ok-content-in-Bytes c =
    let r = c.in_ok-content-in-Bytes in
    let n = c.args.argument in
    let more = c.args.rest.now in
    rw c.in-Bytes.is (front_shorter n more r.content.now r.rest.now r.ensures, λ bytes fits is. bytes_begin n more r.content.now r.rest.now bytes r.ensures fits is)

pub returns-in_ok-string-in-Text : goal.returns-in_ok-string-in-Text
returns-in_ok-string-in-Text c =
    let r = c.in_ok-string-in-Text in
    let n = c.args.argument in
    let more = c.args.rest.now in
    rw c.in-Text.is (text_shorter n more r.string.now r.rest.now r.ensures, λ bytes fits is. text_begins n more r.string.now r.rest.now bytes r.ensures fits is)

pub returns-in-List : goal.returns-in-List
returns-in-List c = rw c.in-List.is (omega arith, λ bytes fits is. (fits, is))

pub returns-in-Map : goal.returns-in-Map
returns-in-Map c = rw c.in-Map.is (omega arith, λ bytes fits is. (fits, is))

pub returns-in_ok-encoded-in-Tag : goal.returns-in_ok-encoded-in-Tag
returns-in_ok-encoded-in-Tag c =
    let r = c.in_ok-encoded-in-Tag in
    let n = c.args.argument in
    let more = c.args.rest.now in
    let same : n ≡ 42 = search rules in
    rw c.in-Tag.is (link_shorter more r.encoded.now r.rest.now r.ensures, λ bytes fits is. link_begins n more r.encoded.now r.rest.now bytes same r.ensures is)

pub returns-in-20 : goal.returns-in-20
returns-in-20 c = rw c.in-Simple.is (omega arith, λ bytes fits is. is ∙ ap (λ k. head Simple k ++ c.args.rest.now) c.in-20.is)

pub returns-in-21 : goal.returns-in-21
returns-in-21 c = rw c.in-Simple.is (omega arith, λ bytes fits is. is ∙ ap (λ k. head Simple k ++ c.args.rest.now) c.in-21.is)

pub returns-in-22 : goal.returns-in-22
returns-in-22 c = rw c.in-Simple.is (omega arith, λ bytes fits is. is ∙ ap (λ k. head Simple k ++ c.args.rest.now) c.in-22.is)
