-- Cursors over a tree: what a step leaves, and how many there are.
use Rattle.std.proofs.Common.{◌≡◌, ◌≤◌, ℕ, suc, ◌+◌, max, List, [], ◌∷◌, ◌++◌, length, Global, String, sym, ap, ◌∙◌, append_assoc, append-nil, length-append, arith}
use Rattle.ipld_tree.specs.Tree.{list, entries}
use Rattle.ipld_tree.specs.TreeOf.{tree_of, items_of, members_of}
use Rattle.ipld_tree.specs.Walk.{nest, items_nest, members_nest}
use Rattle.ipld_tree.specs.declared.ipld.Ipld.{Ipld}
use Rattle.ipld_tokens.specs.Token.{erase}
use Rattle.ipld_tokens.specs.IpldTokens.{left_of, all_left, cursors_in, deepest, deepest_value, slots, StepOf, HasLinkBytes}
use Rattle.ipld_tokens.specs.IpldSource.{IsAtLink}
use Rattle.ipld_tokens.specs.declared.tree_tokens.IpldTokens.{IpldTokens}
use Rattle.ipld_tokens.specs.declared.tree_tokens.TokenCursor.TheVariants.{Encoding}
use Rattle.ipld_tokens.specs.declared.tree_tokens.TokenCursor.{TokenCursor}
use Rattle.ipld_tokens.specs.declared.tree_tokens.Step.{Step}

items_deep : (xs : List Ipld) → deepest xs ≤ suc (items_nest (items_of xs))
items_deep [] = omega arith
items_deep (x ∷ xs) = let h = items_deep xs in omega arith

members_deep : (es : List (String Global × Ipld)) → deepest_value es ≤ suc (members_nest (members_of es))
members_deep [] = omega arith
members_deep (e ∷ es) = let h = members_deep es in omega arith

pub list_slots : (x : Ipld) (xs : List Ipld) → tree_of x ≡ list (items_of xs) → max (suc (deepest xs)) 1 ≤ suc (nest (tree_of x))
list_slots x xs e = let h = items_deep xs in rw e (omega arith)

pub map_slots : (x : Ipld) (es : List (String Global × Ipld)) → tree_of x ≡ entries (members_of es) → max (suc (max 0 (deepest_value es))) 1 ≤ suc (nest (tree_of x))
map_slots x es e = let h = members_deep es in rw e (omega arith)

pub all_left-append : (a b : List TokenCursor) → all_left (a ++ b) ≡ all_left b ++ all_left a
all_left-append [] b = sym (append-nil (all_left b))
all_left-append (c ∷ a) b = ap (λ ts. ts ++ left_of c) (all_left-append a b) ∙ append_assoc (all_left b) (all_left a) (left_of c)

slots-append : (front a b : List TokenCursor) → slots a ≤ slots b → slots (front ++ a) ≤ slots (front ++ b)
slots-append [] a b h = h
slots-append (c ∷ front) a b h = let more = slots-append front a b h in omega arith

pub held_within : (cs : List TokenCursor) → length cs ≤ slots cs
held_within [] = omega arith
held_within (c ∷ cs) = let h = held_within cs in omega arith

abbrev pub after : List TokenCursor → Step → List TokenCursor
after front s = front ++ (cursors_in s.rest ++ cursors_in s.inner)

pub tokens_yielded : (old front : List TokenCursor) (c : TokenCursor) (s : Step) → old ≡ front ++ c ∷ [] → StepOf c s → all_left old ≡ erase s.token ∷ all_left (after front s)
tokens_yielded old front c s e g =
    let new = cursors_in s.rest ++ cursors_in s.inner in
    ap all_left e ∙ all_left-append front (c ∷ []) ∙ ap (λ ts. ts ++ all_left front) g.0 ∙ ap (λ ts. erase s.token ∷ ts) (sym (all_left-append front new))

pub slots_yielded : (old front : List TokenCursor) (c : TokenCursor) (s : Step) → old ≡ front ++ c ∷ [] → StepOf c s → slots (after front s) ≤ slots old
slots_yielded old front c s e g = rw e (slots-append front (cursors_in s.rest ++ cursors_in s.inner) (c ∷ []) (omega (arith, g.1)))

pub fits : (old front : List TokenCursor) (c : TokenCursor) (s : Step) (capacity : ℕ) → old ≡ front ++ c ∷ [] → StepOf c s → slots old ≤ capacity
    → length front + length (cursors_in s.rest ++ cursors_in s.inner) ≤ capacity
fits old front c s capacity e g h =
    omega (arith, slots_yielded old front c s e g, held_within (after front s), length-append front (cursors_in s.rest ++ cursors_in s.inner))

-- a link whose bytes are left
pub at_link_bytes : (source : IpldTokens) (front : List TokenCursor) (c : TokenCursor) → source.stack.items ≡ front ++ c ∷ [] → HasLinkBytes c → IsAtLink source
at_link_bytes source front (Encoding cid) e h = (front, cid, e, ap all_left e ∙ all_left-append front (Encoding cid ∷ []))
at_link_bytes source front c e h = absurd h
