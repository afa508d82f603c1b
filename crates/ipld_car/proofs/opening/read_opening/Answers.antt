use Rattle.std.proofs.Common.{drop, Err, subst, ap, ◌∙◌}
use Rattle.ipld_car.specs.Opening.{ReadsRootsAt}
use Rattle.ipld_car.proofs.Openings.{version1_header, version1_roots, version2_either}
use Rattle.ipld_car.proofs.opening.read_opening.Goals as goal

pub returns-in-Err : goal.returns-in-Err
returns-in-Err g c = version1_header _ _ _ _ _ c.in-Err.ensures.consumed c.in-Err.ensures.read

pub returns-then-is_pragma : goal.returns-then-is_pragma
returns-then-is_pragma g c =
    version2_either _ _ _ _ _ _ c.open_version2.result c.in-Ok.ensures.consumed c.in-Ok.ensures.read
    (rw c.deref.ensures.value at (c.is_pragma.ensures.0 c.if-is_pragma.true)) c.open_version2.ensures

pub returns : goal.returns
returns g c =
    version1_roots _ _ _ _ _ _ c.in-Ok.ensures.consumed c.in-Ok.ensures.read
    (λ e. let yes = c.is_pragma.ensures.1 (ap (drop c.in-Ok.start) c.deref.ensures.value ∙ e) in let no = c.if-is_pragma.false in cc)
    (subst (λ xs. ReadsRootsAt (drop c.in-Ok.start xs) 0 c.in-Ok.start (Err c.in-Err-roots_at.error)) c.deref-2.ensures.value c.in-Err-roots_at.ensures)
