-- Bytes, written piece by piece.
use Rattle.std.proofs.Common.{◌≡◌, ℕ, List, [], ◌++◌, take, drop, Option, Some, None, refl, sym, ap, ◌∙◌}
use Rattle.std.proofs.lemmas.List.{append_assoc, append-nil, take-append-drop}
use Rattle.std.specs.Io.KnownBytes.{Appends, Keeps}
use Rattle.ipld_codec.specs.WriteOut.{WritesFront}

none_appended : (a : Option (List ℕ)) → Appends a a []
none_appended None = tt
none_appended (Some xs) = sym (append-nil xs)

both_appended : (a b c : Option (List ℕ)) (before after : List ℕ) → Appends a b before → Appends b c after → Appends a c (before ++ after)
both_appended None b c before after p q = tt
both_appended (Some xs) None c before after p q = absurd p
both_appended (Some xs) (Some ys) None before after p q = absurd q
both_appended (Some xs) (Some ys) (Some zs) before after p q = q ∙ ap (λ l. l ++ after) p ∙ append_assoc xs before after

kept_appended : (a b c : Option (List ℕ)) (front : List ℕ) → Appends a b front → Keeps b c → Appends a c front
kept_appended None b c front p q = tt
kept_appended (Some xs) None c front p q = absurd p
kept_appended (Some xs) (Some ys) None front p q = absurd q
kept_appended (Some xs) (Some ys) (Some zs) front p q = q ∙ p

pub appended_none : (a b : Option (List ℕ)) → Keeps a b → Appends a b []
appended_none a b k = kept_appended a a b [] (none_appended a) k

pub kept_for_none : (a b : Option (List ℕ)) → Appends a b [] → Keeps a b
kept_for_none None b p = tt
kept_for_none (Some xs) None p = absurd p
kept_for_none (Some xs) (Some ys) p = p ∙ append-nil xs

pub nothing_written : (a : Option (List ℕ)) (block : List ℕ) → WritesFront a a block block
nothing_written a block = record { front = []; splits = refl; appends = none_appended a }

pub piece_written : (a b c : Option (List ℕ)) (block rest : List ℕ) (n : ℕ) → WritesFront a b block rest → Appends b c (take n rest)
    → WritesFront a c block (drop n rest)
piece_written a b c block rest n w p = record {
  front = w.front ++ take n rest;
  splits = w.splits ∙ ap (λ l. w.front ++ l) (sym (take-append-drop n rest)) ∙ sym (append_assoc w.front (take n rest) (drop n rest));
  appends = both_appended a b c w.front (take n rest) w.appends p;
}

pub none_written : (a b c : Option (List ℕ)) (block rest : List ℕ) → WritesFront a b block rest → Keeps b c → WritesFront a c block rest
none_written a b c block rest w p = record { front = w.front; splits = w.splits; appends = kept_appended a b c w.front w.appends p }

pub all_written : (a b : Option (List ℕ)) (block rest : List ℕ) → WritesFront a b block rest → rest ≡ [] → Appends a b block
all_written a b block rest w e = rw (w.splits ∙ ap (λ l. w.front ++ l) e ∙ append-nil w.front) w.appends
