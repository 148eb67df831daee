use Rattle.urlpattern.proofs.router.UrlPatternRouter.link.Goals as goal

pub returns-in-Ok-clause-linked : goal.returns-in-Ok-clause-linked
returns-in-Ok-clause-linked g c = (
  c.in-Some.field-0-0,
  (c.in-Some.pattern.now, c.in-Some.field-0-2.now),
  c.in-Some.ensures,
  (c.in-Ok.ensures.generated, c.in-Ok.ensures.returns, c.in-Ok.ensures.matched),
)

pub returns-in-Err-clause-refused : goal.returns-in-Err-clause-refused
returns-in-Err-clause-refused g c =
    (c.in-Some.field-0-0, (c.in-Some.pattern.now, c.in-Some.field-0-2.now), c.in-Some.ensures, c.in-Err.ensures.refused)
