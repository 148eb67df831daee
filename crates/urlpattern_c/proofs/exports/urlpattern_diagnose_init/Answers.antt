use Rattle.urlpattern_c.proofs.exports.urlpattern_diagnose_init.Goals as goal

pub returns : goal.returns
returns c = (c.diagnose_init.result, c.number.ensures, c.diagnose_init.ensures)
