-- The place and the reason of a failure to read a tree.
use Rattle.std.specs.Prelude.{◌≡◌, ℕ, List, [], ◌∷◌, map, reverse, Option, Some, None, IsSome, IsSomeAnd, string_bytes}
use Rattle.ipld_tree.specs.Tree.{Tree}
use Rattle.ipld_tree.specs.Kind.{kind_of}
use Rattle.ipld_tree.specs.declared.ipld.IpldKind.{IpldKind}
use Rattle.ipld_ser.specs.declared.error.SerdeError.{SerdeError}
use Rattle.ipld_explain.specs.Path.{Step, key, index, at_path}
use Rattle.ipld_explain.specs.declared.explanation.Segment.{Segment}
use Rattle.ipld_explain.specs.declared.explanation.Segment.TheVariants.{Key, Index}
use Rattle.ipld_explain.specs.declared.explanation.Expected.{Expected}
use Rattle.ipld_explain.specs.declared.explanation.Reason.{Reason}
use Rattle.ipld_explain.specs.declared.explanation.Reason.TheVariants.{Value, MissingField, UnknownField, UnknownVariant, Length}
use Rattle.ipld_explain.specs.declared.explanation.Explanation.{Explanation}

-- the reason why a value is at fault
pub data Wrong : Type 0 where
  -- it differs from the expected value
  value : Wrong
  -- it is a map that lacks this name
  missing_field : List ℕ → Wrong
  -- its key is a name that no field has
  unknown_field : Wrong
  -- it names a variant that the enum doesn't have
  unknown_variant : List ℕ → Wrong
  -- it is a list of another length: the number of expected items, and the number of items found
  length : ℕ → ℕ → Wrong

-- a failure: the path to the value at fault, the kind found and the value expected there, the
-- error, and the reason
pub record Failure : Type 0 where
  pub path : List Step
  pub found : IpldKind
  pub expected : Expected
  pub error : SerdeError
  pub wrong : Wrong

-- the model of a segment
abbrev pub step_of : Segment → Step
step_of (Key k) = key (string_bytes k)
step_of (Index n) = index n

-- the model of a reason
abbrev pub wrong_of : Reason → Wrong
wrong_of Value = value
wrong_of (MissingField name) = missing_field (string_bytes name)
wrong_of UnknownField = unknown_field
wrong_of (UnknownVariant name) = unknown_variant (string_bytes name)
wrong_of (Length expected found) = length expected found

-- the model of an explanation, whose segments are kept from the innermost to the outermost
abbrev pub failure_of : Explanation → Failure
failure_of x = record {
  path = map step_of (reverse x.segments.items);
  found = x.found;
  expected = x.expected;
  error = x.error;
  wrong = wrong_of x.reason;
}

-- the failure of a value that a step leads to, with the step at the front of its path
abbrev pub under : Step → Failure → Failure
under s f = record { path = s ∷ f.path; found = f.found; expected = f.expected; error = f.error; wrong = f.wrong }

-- True if `f` is the failure of the value that the step leads to.
abbrev pub Inside : Step → (Failure → Type 0) → Failure → Type 0
Inside s fails f = (g : Failure) × fails g × (f ≡ under s g)

-- True if the path of the failure leads to a value of the kind that was found.
abbrev pub Leads : Tree → Failure → Type 0
Leads t f = IsSomeAnd (at_path f.path t) (λ v. kind_of v ≡ f.found)

-- True if `f` is the failure of the value itself, with this expected value and such an error.
abbrev pub FailsHere : Expected → (SerdeError → Type 0) → Failure → Type 0
FailsHere expected error f = (f.path ≡ []) × (f.expected ≡ expected) × error f.error × (f.wrong ≡ value)

-- True if the result is nothing and the tree is read, or it is its failure, which leads to a value
-- in the tree.
abbrev pub Explains : {C : Type 0} → (Tree → Option C) → (Tree → Failure → Type 0) → Tree → Option Failure → Type 0
Explains reads fails t None = IsSome (reads t)
Explains reads fails t (Some f) = (reads t ≡ None) × Leads t f × fails t f
