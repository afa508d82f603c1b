-- Texts, written one behind the other.
use Rattle.std.proofs.Common.{◌≡◌, ℕ, List, ◌++◌, Option, Some, None, sym, ap, subst}
use Rattle.std.proofs.KnownBytes.{Appends-trans}
use Rattle.std.specs.Io.KnownBytes.{Appends}
use Rattle.std.specs.Option.{unwrap_or}
use Rattle.ipld_cid.specs.Cid.{Link}
use Rattle.ipld_block.specs.Codes.{codec_name_of}
use Rattle.car_files.specs.Written.{hexadecimal, codec_text, edges_text}

-- two texts
pub both : (a b c : Option (List ℕ)) (x y : List ℕ) → Appends a b x → Appends b c y → Appends a c (x ++ y)
both a b c x y p q = Appends-trans a b c x y p q

-- three
pub three : (a b c d : Option (List ℕ)) (x y z : List ℕ) → Appends a b x → Appends b c y → Appends c d z → Appends a d (x ++ y ++ z)
three a b c d x y z p q r = both a c d (x ++ y) z (both a b c x y p q) r

codec_named : (code : ℕ) (name : List ℕ) → codec_name_of code ≡ Some name → codec_text code ≡ name
unfolding codec_text
codec_named code name e = ap (λ (found : Option (List ℕ)). unwrap_or found (hexadecimal code)) e

codec_unnamed : (code : ℕ) → codec_name_of code ≡ None → codec_text code ≡ hexadecimal code
unfolding codec_text
codec_unnamed code e = ap (λ (found : Option (List ℕ)). unwrap_or found (hexadecimal code)) e

-- the name of a codec was written, or its code
pub named_written : (code : ℕ) (name : List ℕ) (held holds : Option (List ℕ)) → codec_name_of code ≡ Some name → Appends held holds name → Appends held holds (codec_text code)
named_written code name held holds e a = subst (Appends held holds) (sym (codec_named code name e)) a

pub unnamed_written : (code : ℕ) (held holds : Option (List ℕ)) → codec_name_of code ≡ None → Appends held holds (hexadecimal code) → Appends held holds (codec_text code)
unnamed_written code held holds e a = subst (Appends held holds) (sym (codec_unnamed code e)) a

-- links were written, by other names of the CID and of them
pub edges_are : (before between after : List ℕ) (from block : Link) (links known : List Link) (held holds : Option (List ℕ)) → from ≡ block → links ≡ known
    → Appends held holds (edges_text before between after from links) → Appends held holds (edges_text before between after block known)
edges_are before between after from block links known held holds f l a =
    subst (λ (ls : List Link). Appends held holds (edges_text before between after block ls)) l
    (subst (λ (c : Link). Appends held holds (edges_text before between after c links)) f a)

-- four texts, and more
pub four : (a b c d e : Option (List ℕ)) (v w x y : List ℕ) → Appends a b v → Appends b c w → Appends c d x → Appends d e y → Appends a e (v ++ w ++ x ++ y)
four a b c d e v w x y p q r s = both a d e (v ++ w ++ x) y (three a b c d v w x p q r) s

pub five : (a b c d e f : Option (List ℕ)) (v w x y z : List ℕ) → Appends a b v → Appends b c w → Appends c d x → Appends d e y → Appends e f z
    → Appends a f (v ++ w ++ x ++ y ++ z)
five a b c d e f v w x y z p q r s t = both a e f (v ++ w ++ x ++ y) z (four a b c d e v w x y p q r s) t
