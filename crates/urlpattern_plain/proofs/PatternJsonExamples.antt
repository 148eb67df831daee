-- Worked examples of trees and of reading them.
use Rattle.std.proofs.Common.{◌≡◌, None, Some, codes, refl, [], false}
use Rattle.std.specs.Str.{chars}
use Rattle.serde_json.specs.Data.{boolean, member, no_members, object, string}
use Rattle.urlpattern_plain.specs.PatternJson.{character_read, inner_read, matcher_read, matcher_tree}
use Rattle.urlpattern_plain.specs.Values.{single_capture}

-- A segment after `/`, with no suffix.
segment : matcher_tree (record { prefix = codes "/"; suffix = []; inner = single_capture (Some 47) false })
    ≡ object (member (codes "allowEmpty") (boolean false) (member (codes "filter") (string (codes "/")) (member (codes "kind") (string (codes "singleCapture")) (member (codes "prefix") (string (codes "/")) (member (codes "suffix") (string []) no_members)))))
unfolding lib.Utf8.encode
segment = refl

-- A string of two characters is no filter.
two_characters : character_read (string (codes "ab")) ≡ None
unfolding chars
two_characters = refl

-- The name of a kind is case-sensitive.
kind_in_capitals : matcher_read (object (member (codes "kind") (string (codes "Literal")) (member (codes "literal") (string []) (member (codes "prefix") (string []) (member (codes "suffix") (string []) no_members))))) ≡ None
unfolding matcher_read inner_read
kind_in_capitals = refl
