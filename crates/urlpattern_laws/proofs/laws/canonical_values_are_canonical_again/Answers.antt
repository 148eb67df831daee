use Rattle.urlpattern_laws.proofs.CanonicalAgain.{hash_again, password_again, search_again, username_again}
use Rattle.urlpattern_laws.proofs.laws.canonical_values_are_canonical_again.Goals as goal

pub returns-clause-username : goal.returns-clause-username
returns-clause-username c = username_again

pub returns-clause-password : goal.returns-clause-password
returns-clause-password c = password_again

pub returns-clause-search : goal.returns-clause-search
returns-clause-search c = search_again

pub returns-clause-hash : goal.returns-clause-hash
returns-clause-hash c = hash_again
