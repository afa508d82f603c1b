use Rattle.std.proofs.Common.{◌^◌, Some, option_map, option_and_then, ap, string_bytes, refl, sym, subst}
use Rattle.ipld_tokens.specs.Token.{atom}
use Rattle.ipld_tokens.specs.Token as tok
use Rattle.ipld_links_run.specs.declared.owned_token.OwnedToken.TheVariants as owned
use Rattle.ipld_links_run.specs.OwnedToken.{token_of}
use Rattle.ipld_links_run.specs.TokenLine.{field_token, field_lines, bool_field, int_field, number_below, char_field, text_field, bytes_field}
use Rattle.ipld_links_run.specs.Said.{Parses}
use Rattle.ipld_links_run.proofs.TokenLineLemmas.{mapped, not_among, twice}
use Rattle.ipld_links_run.proofs.token_line.field_token.Goals as goal

pub returns-in-bool : goal.returns-in-bool
unfolding field_token
returns-in-bool c =
    let field = c.args.field.now in
    subst (λ name. Parses token_of (field_token name field) c.map.result) (sym c.in-bool.is) (mapped (λ b. b) token_of (λ b. atom (tok.boolean b)) owned.Bool (bool_field field) c.parse_bool.result c.map.result c.parse_bool.ensures (λ _. refl) c.map.ensures.cases)

pub returns-in-int : goal.returns-in-int
unfolding field_token
returns-in-int c =
    let field = c.args.field.now in
    subst (λ name. Parses token_of (field_token name field) c.map-in-int.result) (sym c.in-int.is) (mapped (λ n. n) token_of (λ n. atom (tok.integer n)) owned.Int (int_field field) c.parse_int.result c.map-in-int.result c.parse_int.ensures (λ _. refl) c.map-in-int.ensures.cases)

pub returns-in-u128 : goal.returns-in-u128
unfolding field_token
returns-in-u128 c =
    let field = c.args.field.now in
    subst (λ name. Parses token_of (field_token name field) c.map-in-u128.result) (sym c.in-u128.is) (mapped (λ n. n) token_of (λ n. atom (tok.unsigned n)) owned.U128 (number_below (2 ^ 128) field) c.parse_unsigned.result c.map-in-u128.result c.parse_unsigned.ensures (λ _. refl) c.map-in-u128.ensures.cases)

pub returns-in-char : goal.returns-in-char
unfolding field_token
returns-in-char c =
    let field = c.args.field.now in
    subst (λ name. Parses token_of (field_token name field) c.map-in-char.result) (sym c.in-char.is) (mapped (λ x. x) token_of (λ x. atom (tok.character x)) owned.Char (char_field field) c.parse_char.result c.map-in-char.result c.parse_char.ensures (λ _. refl) c.map-in-char.ensures.cases)

pub returns-in-str : goal.returns-in-str
unfolding field_token
returns-in-str c =
    let field = c.args.field.now in
    subst (λ name. Parses token_of (field_token name field) c.map-in-str.result) (sym c.in-str.is) (mapped string_bytes token_of (λ s. atom (tok.text s)) owned.Str (text_field field) c.parse_text.result c.map-in-str.result c.parse_text.ensures (λ _. refl) c.map-in-str.ensures.cases)

pub returns-in-bytes : goal.returns-in-bytes
unfolding field_token
returns-in-bytes c =
    let field = c.args.field.now in
    subst (λ name. Parses token_of (field_token name field) c.map-in-bytes.result) (sym c.in-bytes.is) (mapped (λ b. b.items) token_of tok.bytes owned.Bytes (bytes_field field) c.parse_bytes.result c.map-in-bytes.result c.parse_bytes.ensures (λ _. refl) c.map-in-bytes.ensures.cases)

pub returns-in-unitvariant : goal.returns-in-unitvariant
unfolding field_token
returns-in-unitvariant c =
    let field = c.args.field.now in
    subst (λ name. Parses token_of (field_token name field) c.map-in-unitvariant.result) (sym c.in-unitvariant.is) (mapped string_bytes token_of (λ s. atom (tok.unit_variant s)) owned.UnitVariant (text_field field) c.parse_text-in-unitvariant.result c.map-in-unitvariant.result c.parse_text-in-unitvariant.ensures (λ _. refl) c.map-in-unitvariant.ensures.cases)

pub returns-in-variant : goal.returns-in-variant
unfolding field_token
returns-in-variant c =
    let field = c.args.field.now in
    subst (λ name. Parses token_of (field_token name field) c.map-in-variant.result) (sym c.in-variant.is) (mapped string_bytes token_of tok.variant owned.Variant (text_field field) c.parse_text-in-variant.result c.map-in-variant.result c.parse_text-in-variant.ensures (λ _. refl) c.map-in-variant.ensures.cases)

pub returns-in-seq : goal.returns-in-seq
unfolding field_token
returns-in-seq c =
    let field = c.args.field.now in
    subst (λ name. Parses token_of (field_token name field) c.map-in-seq.result) (sym c.in-seq.is) (subst (λ o. Parses token_of o c.map-in-seq.result) (twice (λ h. tok.seq) Some (number_below (2 ^ 64) field))
    (mapped (λ h. h) token_of (λ h. tok.seq) owned.Seq (option_map Some (number_below (2 ^ 64) field)) c.parse_hint.result c.map-in-seq.result c.parse_hint.ensures (λ _. refl) c.map-in-seq.ensures.cases))

pub returns-in-map : goal.returns-in-map
unfolding field_token
returns-in-map c =
    let field = c.args.field.now in
    subst (λ name. Parses token_of (field_token name field) c.map-in-map.result) (sym c.in-map.is) (subst (λ o. Parses token_of o c.map-in-map.result) (twice (λ h. tok.map) Some (number_below (2 ^ 64) field))
    (mapped (λ h. h) token_of (λ h. tok.map) owned.Map (option_map Some (number_below (2 ^ 64) field)) c.parse_hint-in-map.result c.map-in-map.result c.parse_hint-in-map.ensures (λ _. refl) c.map-in-map.ensures.cases))

pub returns-in_default : goal.returns-in_default
unfolding field_token
returns-in_default c =
    let d = c.in_default in
    ap (option_and_then (λ means. means c.args.field.now)) (not_among _ field_lines (d.not-bool, (d.not-int, (d.not-u128, (d.not-char, (d.not-str, (d.not-bytes, (d.not-unitvariant, (d.not-variant, (d.not-seq, (d.not-map, tt)))))))))))
