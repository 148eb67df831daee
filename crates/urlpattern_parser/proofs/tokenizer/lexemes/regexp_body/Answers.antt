use Rattle.urlpattern_parser.proofs.tokenizer.lexemes.regexp_body.Goals as goal

pub returns-in-Ok : goal.returns-in-Ok
returns-in-Ok c = c.in-Ok.ensures.body

pub returns-in-Err : goal.returns-in-Err
returns-in-Err c = c.in-Err.ensures.refused.0
