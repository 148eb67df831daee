use Rattle.urlpattern_c.proofs.exports.urlpattern_diagnose.Goals as goal

pub returns : goal.returns
returns c = (c.diagnose.result, c.number.ensures, c.diagnose.ensures)
