-- The contents of a caller's buffer after a call that fills it.
use Rattle.std.specs.Prelude.{◌≡◌, ◌⊎◌, ◌<◌, ◌≤◌, ◌++◌, ℕ, List, length, drop}

-- A variable of the caller: its value before the call, and after it.
pub record Variable (A : Type 0) : Type 0 where
  pub before : A
  pub after : A

-- True if the content is at the beginning of the buffer, and the rest of the buffer is as before
pub record IsFilled {A : Type 0} (content before after : List A) : Type 0 where
  pub holds : length content ≤ length before
  pub filled : after ≡ content ++ drop (length content) before

-- True if the buffer is shorter than the content, and as before
pub record IsTooShort {A : Type 0} (content before after : List A) : Type 0 where
  pub short : length before < length content
  pub same : after ≡ before

-- True if the needed length is that of the content, and one of two cases holds. Either the status
-- is 0, the content is at the beginning of the buffer, and the rest of the buffer is as before. Or
-- the status is 2, and the buffer is shorter than the content and as before.
pub record Fills {A : Type 0} (content : List A) (status : ℕ) (before after : List A) (needed : ℕ) : Type 0 where
  pub length_needed : needed ≡ length content
  pub done : ((status ≡ 0) × IsFilled content before after) ⊎ ((status ≡ 2) × IsTooShort content before after)

-- True if the buffer and the length are as before.
pub record IsUntouched {A : Type 0} (before after : List A) (needed_before needed : ℕ) : Type 0 where
  pub buffer : after ≡ before
  pub length_needed : needed ≡ needed_before
