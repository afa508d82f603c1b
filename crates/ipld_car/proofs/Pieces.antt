-- Bytes, written piece by piece.
use Rattle.std.proofs.Common.{◌≡◌, ℕ, List, [], ◌++◌, take, drop, Option, Some, None, refl, sym, ap, ◌∙◌, append_assoc, append-nil}
use Rattle.std.proofs.KnownBytes.{Appends-nil, Appends-trans}
use Rattle.std.proofs.lemmas.List.{take-append-drop}
use Rattle.std.specs.Io.KnownBytes.{Appends, Keeps}
use Rattle.ipld_codec.specs.WriteOut.{WritesFront}

kept_appended : (a b c : Option (List ℕ)) (front : List ℕ) → Appends a b front → Keeps b c → Appends a c front
kept_appended None b c front p q = tt
kept_appended (Some xs) None c front p q = absurd p
kept_appended (Some xs) (Some ys) None front p q = absurd q
kept_appended (Some xs) (Some ys) (Some zs) front p q = q ∙ p

pub appended_none : (a b : Option (List ℕ)) → Keeps a b → Appends a b []
appended_none a b k = kept_appended a a b [] (Appends-nil a) k

pub kept_for_none : (a b : Option (List ℕ)) → Appends a b [] → Keeps a b
kept_for_none None b p = tt
kept_for_none (Some xs) None p = absurd p
kept_for_none (Some xs) (Some ys) p = p ∙ append-nil xs

pub nothing_written : (a : Option (List ℕ)) (bytes : List ℕ) → WritesFront a a bytes bytes
nothing_written a bytes = record { front = []; splits = refl; appends = Appends-nil a }

pub piece_written : (a b c : Option (List ℕ)) (bytes rest : List ℕ) (n : ℕ) → WritesFront a b bytes rest → Appends b c (take n rest)
    → WritesFront a c bytes (drop n rest)
piece_written a b c bytes rest n w p = record {
  front = w.front ++ take n rest;
  splits = w.splits ∙ ap (λ l. w.front ++ l) (sym (take-append-drop n rest)) ∙ sym (append_assoc w.front (take n rest) (drop n rest));
  appends = Appends-trans a b c w.front (take n rest) w.appends p;
}

pub none_written : (a b c : Option (List ℕ)) (bytes rest : List ℕ) → WritesFront a b bytes rest → Keeps b c → WritesFront a c bytes rest
none_written a b c bytes rest w p = record { front = w.front; splits = w.splits; appends = kept_appended a b c w.front w.appends p }

pub all_written : (a b : Option (List ℕ)) (bytes rest : List ℕ) → WritesFront a b bytes rest → rest ≡ [] → Appends a b bytes
all_written a b bytes rest w e = rw (w.splits ∙ ap (λ l. w.front ++ l) e ∙ append-nil w.front) w.appends
