-- Values that are already canonical.
use Rattle.std.specs.Prelude.{ℕ, Bool, List, [], ◌∷◌, false, true, not, ◌==◌, ◌&&◌, ◌||◌, codes, leb, length, slice_index}
use Rattle.std.specs.Char.{is_ascii_alphanumeric, is_ascii_digit, is_ascii_lowercase}
use Rattle.std.specs.List.{list_all}
use Rattle.url.specs.Ascii.{digit_zero, dot, slash}
use Rattle.urlpattern_components.specs.declared.eight.ComponentName.{ComponentName}
use Rattle.urlpattern_components.specs.declared.eight.ComponentName.TheVariants.{Hostname, Pathname, Port, Search, Hash}
use Rattle.urlpattern_syntax.specs.Text.{is_among}

-- Whether the character is an ASCII letter, a digit or one of these marks, which no path, search or
-- hash percent-encodes.
abbrev pub is_kept_character : ℕ → Bool
is_kept_character c = is_ascii_alphanumeric c || is_among (codes "-._~/!$%&()*+,:;=@") c

-- Whether the character may begin a dot segment: a dot, or the percent sign of `%2e`.
abbrev pub is_dot_mark : ℕ → Bool
is_dot_mark c = is_among (codes ".%") c

-- Whether `is_kept_character` holds of each character, and no segment after a slash begins as a dot
-- segment may. `begins` is whether the text follows a slash.
abbrev pub is_kept_path : (begins : Bool) → List ℕ → Bool
is_kept_path begins [] = true
is_kept_path begins (c ∷ text) =
    (is_kept_character c && not (begins && is_dot_mark c)) && is_kept_path (c == slash) text

-- Whether the character is a lowercase letter or a hyphen.
abbrev pub is_label_character : ℕ → Bool
is_label_character c = is_ascii_lowercase c || is_among (codes "-") c

-- Whether the character is a lowercase letter, a hyphen or a dot.
abbrev pub is_host_character : ℕ → Bool
is_host_character c = is_label_character c || c == dot

-- Whether each character is a lowercase letter, a hyphen or a dot, and the last is not a dot.
-- `dotted` is whether the text follows a dot.
abbrev pub is_kept_host : (dotted : Bool) → List ℕ → Bool
is_kept_host dotted [] = not dotted
is_kept_host dotted (c ∷ text) = is_host_character c && is_kept_host (c == dot) text

-- Whether `is_kept_character` holds of each character, and the first is not a slash.
abbrev pub is_kept_opaque : List ℕ → Bool
is_kept_opaque value = not (slice_index value 0 == slash) && list_all is_kept_character value

-- Whether the port consists of at most four digits, the first of which is not 0. True if it is
-- empty.
abbrev pub is_kept_port : List ℕ → Bool
is_kept_port value =
    not (slice_index value 0 == digit_zero)
    && (leb (length value) 4 && list_all is_ascii_digit value)

-- Whether the value is known to be canonical in the component; of a protocol, a username and a
-- password, only the empty one is. `hierarchical` is whether a pathname is a path of segments
-- rather than opaque; a hostname is not an IPv6 address.
abbrev pub is_kept_value : ComponentName → (hierarchical : Bool) → List ℕ → Bool
is_kept_value Hostname hierarchical value = is_kept_host false value
is_kept_value Pathname true value = is_kept_path false value
is_kept_value Pathname false value = is_kept_opaque value
is_kept_value Search hierarchical value = list_all is_kept_character value
is_kept_value Hash hierarchical value = list_all is_kept_character value
is_kept_value Port hierarchical value = is_kept_port value
is_kept_value component hierarchical value = length value == 0
