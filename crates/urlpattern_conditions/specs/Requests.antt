-- The view of a request.
use Rattle.std.specs.Prelude.{ℕ, List, map}
use Rattle.urlpattern_components.specs.Eight.{Texts}
use Rattle.urlpattern_conditions.specs.declared.request.Request.{Request}
use Rattle.urlpattern_matches.specs.GroupTexts.{borrowed_texts}

-- The texts of a request's URL, and the names of its attributes, in bytes.
pub record RequestView : Type 0 where
  pub texts : Texts
  pub names : List (List ℕ)

-- The view of a request.
abbrev pub request_view : Request → RequestView
request_view request = record {
  texts = borrowed_texts request.texts.now;
  names = map (λ name. name.now) request.names.now;
}
