-- Hints of lists and maps.
use Rattle.std.proofs.Common.{◌≡◌, ℕ, suc, List, [], ◌∷◌, ◌++◌, length, Some, Global, String, refl, sym, ap, subst, ◌∙◌, append_assoc}
use Rattle.ipld_tree.specs.Tree.{Tree}
use Rattle.ipld_tree.specs.Tree as tree
use Rattle.ipld_tree.specs.TreeOf.{items_of, members_of}
use Rattle.ipld_tree.specs.IsWhole.{keys_in}
use Rattle.ipld_tree.specs.declared.ipld.Ipld.{Ipld}
use Rattle.ipld_tokens.specs.Token.{TokenModel}
use Rattle.ipld_tokens.specs.TreeTokens.{tokens_of_tree}
use Rattle.ipld_tokens.specs.Hints.{count_of, Counts, CountsFirst}
use Rattle.ipld_tokens.specs.declared.token.Token.{Token}
use Rattle.ipld_tokens.specs.declared.token.Token.TheVariants as token

items_counted : (xs : List Ipld) → length xs ≡ count_of (items_of xs)
items_counted [] = refl
items_counted (x ∷ xs) = ap suc (items_counted xs)

members_counted : (es : List (String Global × Ipld)) → length es ≡ length (keys_in (members_of es))
members_counted [] = refl
members_counted (e ∷ es) = ap suc (members_counted es)

pub list_counted : (v : Tree) (xs : List Ipld) (n : ℕ) → v ≡ tree.list (items_of xs) → n ≡ length xs → Counts (token.Seq (Some n)) v
list_counted v xs n is e = subst (Counts (token.Seq (Some n))) (sym is) (ap Some (e ∙ items_counted xs))

pub map_counted : (v : Tree) (es : List (String Global × Ipld)) (n : ℕ) → v ≡ tree.entries (members_of es) → n ≡ length es → Counts (token.Map (Some n)) v
map_counted v es n is e = subst (Counts (token.Map (Some n))) (sym is) (ap Some (e ∙ members_counted es))

-- more comes after
pub counted_more : (t : Token) (a b more : List TokenModel) → b ≡ a ++ more → CountsFirst t a → CountsFirst t b
counted_more (token.Seq hint) a b more e (ts, rest, split, h) =
    (ts, rest ++ more, e ∙ ap (λ xs. xs ++ more) split ∙ append_assoc (tokens_of_tree (tree.list ts)) rest more, h)
counted_more (token.Map hint) a b more e (ms, rest, split, h) =
    (ms, rest ++ more, e ∙ ap (λ xs. xs ++ more) split ∙ append_assoc (tokens_of_tree (tree.entries ms)) rest more, h)
counted_more t a b more e h = tt
