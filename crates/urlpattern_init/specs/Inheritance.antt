-- The values of an init, and what it inherits from its base URL, after the URLPattern Standard,
-- section "Processing", "process a URLPatternInit".
use Rattle.std.specs.Prelude.{ℕ, Bool, true, false, ◌&&◌, ◌||◌, ◌==◌, fold, max, List, [], ◌∷◌, ◌++◌, map, Option, Some, None, is_none, option_map, unwrap_or, Ok, Err, if◌then◌else◌, String}
use Rattle.std.specs.List.{list_all, list_any}
use Rattle.std.specs.Option.{option_or}
use Rattle.std.specs.declared.alloc.Global.{Global}
use Rattle.url.specs.declared.error.ParseError.{ParseError}
use Rattle.url.specs.declared.slicing.Position.TheVariants.{BeforePort, AfterPort}
use Rattle.url.specs.Ascii.{backslash, slash}
use Rattle.url.specs.Host.{host_text}
use Rattle.url.specs.Parser.{Parsed, and_then}
use Rattle.url.specs.Parts.{Parts, cannot_be_a_base, host_or_empty, text_between}
use Rattle.urlpattern_components.specs.declared.eight.ComponentName.TheVariants.{Protocol, Username, Password, Hostname, Port, Pathname, Search, Hash}
use Rattle.urlpattern_init.specs.declared.init.UrlPatternInit.{UrlPatternInit}
use Rattle.urlpattern_canonical.specs.Canonical.{bytes_passed, left_brace, processed_base, processed_hash, processed_hostname, processed_password, processed_pathname, processed_port, processed_protocol, processed_search, processed_username, without_first}
use Rattle.urlpattern_canonical.specs.declared.canonicalize_and_process.ProcessType.{ProcessType}
use Rattle.urlpattern_components.specs.declared.eight.ComponentName.{ComponentName}
use Rattle.urlpattern_components.specs.declared.eight.Eight.{Eight}
use Rattle.urlpattern_components.specs.Eight.{Texts, Values, at, components, each}
use Rattle.urlpattern_syntax.specs.Text.{begins_with, byte_len, chars, text_of}

-- The texts of an init by component; None for a component that it lacks.
abbrev pub given_texts : UrlPatternInit → Eight (Option (String Global))
given_texts given = record {
  protocol = given.protocol;
  username = given.username;
  password = given.password;
  hostname = given.hostname;
  port = given.port;
  pathname = given.pathname;
  search = given.search;
  hash = given.hash;
}

-- Eight optional strings as lists of characters.
abbrev pub values_of : Eight (Option (String Global)) → Values
values_of texts = each (λ name. option_map text_of (at texts name))

-- The texts of an init by component, as lists of characters; None for a component that it lacks.
abbrev pub values_view : UrlPatternInit → Values
values_view init = values_of (given_texts init)

-- ---- the table of inheritance

-- The components that an init must lack, along with the component itself, to inherit it from the
-- base URL.
abbrev pub must_lack : ComponentName → List ComponentName
must_lack Protocol = []
must_lack Username = Protocol ∷ Hostname ∷ Port ∷ []
must_lack Password = Protocol ∷ Hostname ∷ Port ∷ Username ∷ []
must_lack Hostname = Protocol ∷ []
must_lack Port = Protocol ∷ Hostname ∷ []
must_lack Pathname = Protocol ∷ Hostname ∷ Port ∷ []
must_lack Search = Protocol ∷ Hostname ∷ Port ∷ Pathname ∷ []
must_lack Hash = Protocol ∷ Hostname ∷ Port ∷ Pathname ∷ Search ∷ []

-- The text of a URL's component, as `url`'s accessors return it; empty if the URL lacks it.
abbrev pub url_text : ComponentName → Parts → List ℕ
url_text Protocol url = chars url.scheme
url_text Username url = chars url.username
url_text Password url = chars url.password
url_text Hostname url = chars (host_text (host_or_empty url))
url_text Port url = chars (text_between url BeforePort AfterPort)
url_text Pathname url = chars url.path
url_text Search url = chars (unwrap_or url.query [])
url_text Hash url = chars (unwrap_or url.fragment [])

-- Whether a component can be inherited: a pattern inherits neither user name nor password.
abbrev pub is_inheritable : ProcessType → ComponentName → Bool
is_inheritable ProcessType.Pattern Username = false
is_inheritable ProcessType.Pattern Password = false
is_inheritable mode component = true

-- The processed value of a component's `text`, or the error of `url`. Port and pathname depend on
-- `protocol`, the processed value of the protocol.
abbrev pub processed_text : ProcessType → (protocol : Option (List ℕ)) → ComponentName → List ℕ
    → Parsed (List ℕ)
processed_text mode protocol Protocol text = processed_protocol mode text
processed_text mode protocol Username text = processed_username mode text
processed_text mode protocol Password text = processed_password mode text
processed_text mode protocol Hostname text = processed_hostname mode text
processed_text mode protocol Port text = processed_port mode protocol text
processed_text mode protocol Pathname text = processed_pathname mode protocol text
processed_text mode protocol Search text = processed_search mode text
processed_text mode protocol Hash text = processed_hash mode text

-- ---- a relative pathname

-- Whether the character is a slash.
abbrev pub is_slash : ℕ → Bool
is_slash c = c == slash

-- Whether a pathname is absolute: it begins with a slash, in a pattern perhaps after one backslash
-- or one open brace.
abbrev pub is_absolute : ProcessType → List ℕ → Bool
is_absolute ProcessType.Pattern text =
    begins_with is_slash (without_first backslash text)
    || begins_with is_slash (without_first left_brace text)
is_absolute ProcessType.Url text = begins_with is_slash text

-- A path up to its last slash, the slash included; empty if the path has no slash.
abbrev pub up_to_last_slash : List ℕ → List ℕ
up_to_last_slash [] = []
up_to_last_slash (c ∷ path) = if list_any is_slash (c ∷ path) then c ∷ up_to_last_slash path else []

-- What is put before the pathname `text`: if it is relative, the path of `base` up to its last
-- slash, escaped for a pattern, unless that path is opaque; else nothing.
abbrev pub path_prefix : ProcessType → Option Parts → List ℕ → List ℕ
path_prefix mode None text = []
path_prefix mode (Some base) text =
    if is_absolute mode text || cannot_be_a_base base then []
    else processed_base mode (chars (up_to_last_slash base.path))

-- ---- processed values

-- The text that is processed for `text`, the text of a component in the init: a pathname after its
-- `path_prefix`, a text of any other component unchanged.
abbrev pub given_text : ProcessType → Option Parts → ComponentName → List ℕ → List ℕ
given_text mode base Pathname text = path_prefix mode base text ++ text
given_text mode base component text = text

-- Whether the init lacks all of these components.
abbrev pub lacks_all : Values → List ComponentName → Bool
lacks_all values components = list_all (λ component. is_none (at values component)) components

-- The value that an init inherits for a component that it lacks. None if it has no base URL or may
-- not inherit the component.
abbrev pub inherited : ProcessType → Values → Option Parts → ComponentName → Option (List ℕ)
inherited mode values base component =
    if is_inheritable mode component && lacks_all values (must_lack component)
    then option_map (λ url. processed_base mode (url_text component url)) base
    else None

-- The value of a component that is neither given nor inherited: None in a pattern, empty in a URL.
abbrev pub missing : ProcessType → Option (List ℕ)
missing ProcessType.Pattern = None
missing ProcessType.Url = Some []

-- The processed value of a component, or its error, by the component's text in the init. For None
-- the value is inherited, or else `missing`.
abbrev pub value_given : ProcessType → Values → Option Parts
    → (protocol : Option (List ℕ)) → ComponentName → Option (List ℕ)
    → Parsed (Option (List ℕ))
value_given mode values base protocol component None =
    Ok (option_or (inherited mode values base component) (missing mode))
value_given mode values base protocol component (Some text) =
    and_then (processed_text mode protocol component (given_text mode base component text))
    (λ value. Ok (Some value))

-- The processed value of a component in an init with these values and this base URL, or its error.
-- `protocol` is the processed value of the protocol.
abbrev pub processed_value : ProcessType → Values → Option Parts
    → (protocol : Option (List ℕ)) → ComponentName → Parsed (Option (List ℕ))
processed_value mode values base protocol component =
    value_given mode values base protocol component (at values component)

-- The error of a result that has one, else `later`.
abbrev pub error_or : {A : Type 0} → Parsed A → Option ParseError → Option ParseError
error_or (Err reason) later = Some reason
error_or (Ok value) later = later

-- The first error among the results `answers` of the listed components; None if each has a value.
abbrev pub first_error : {A : Type 0} → (ComponentName → Parsed A) → List ComponentName
    → Option ParseError
first_error answers [] = None
first_error answers (name ∷ others) = error_or (answers name) (first_error answers others)

-- The value of a result; None for an error.
abbrev pub value_or_none : Parsed (Option (List ℕ)) → Option (List ℕ)
value_or_none (Ok value) = value
value_or_none (Err reason) = None

-- The error if there is one, else the values.
abbrev pub unless_error : Option ParseError → Values → Parsed Values
unless_error (Some reason) values = Err reason
unless_error None values = Ok values

-- The values of the results `answers` for all components, or the first error among them.
abbrev pub all_values : (ComponentName → Parsed (Option (List ℕ))) → Parsed Values
all_values answers =
    unless_error (first_error answers components) (each (λ name. value_or_none (answers name)))

-- The processed values of an init with these values and this base URL, or the first error. The
-- protocol is processed first.
unfoldable pub processed_values : ProcessType → Values → Option Parts → Parsed Values
processed_values mode values base =
    and_then (processed_value mode values base None Protocol) (λ protocol.
    all_values (processed_value mode values base protocol))

-- ---- lengths of texts that `url` receives

-- The length in bytes of an optional text; 0 for None.
abbrev pub bytes_of : Option (List ℕ) → ℕ
bytes_of text = byte_len (unwrap_or text [])

-- The length in bytes of the text that is processed for a component's text in the init: of a
-- relative pathname, with the path of the base before it. 0 if the init lacks the component.
abbrev pub given_bytes : ProcessType → Values → Option Parts → ComponentName → ℕ
given_bytes mode values base component =
    bytes_of (option_map (given_text mode base component) (at values component))

-- The length in bytes of the processed protocol; 0 for None or an error.
abbrev pub protocol_bytes : Parsed (Option (List ℕ)) → ℕ
protocol_bytes (Ok protocol) = bytes_of protocol
protocol_bytes (Err reason) = 0

-- The length in bytes of the longest text that `url` receives when an init with these values and
-- this base URL is processed; 0 for a pattern, of which `url` receives nothing.
unfoldable pub longest_bytes : ProcessType → Values → Option Parts → ℕ
longest_bytes mode values base =
    bytes_passed mode (fold max (protocol_bytes (processed_value mode values base None Protocol))
    (map (given_bytes mode values base) components))

-- The processed values of an init, or the first error.
abbrev pub init_values : ProcessType → UrlPatternInit → Parsed Values
init_values mode init = processed_values mode (values_view init) init.base_url

-- The length in bytes of the longest text of an init that `url` receives; 0 for a pattern.
abbrev pub longest_init_bytes : ProcessType → UrlPatternInit → ℕ
longest_init_bytes mode init = longest_bytes mode (values_view init) init.base_url

-- ---- eight texts

-- The eight texts of a URL; empty for a component that it lacks.
abbrev pub texts_of_url : Parts → Texts
texts_of_url url = each (λ name. url_text name url)

-- The values as texts; an empty text for None.
abbrev pub texts_of_values : Values → Texts
texts_of_values values = each (λ name. unwrap_or (at values name) [])
