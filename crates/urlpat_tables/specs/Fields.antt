-- The field of a line that has its URL, in CSV, TSV or JSON. Texts are bytes.
use Rattle.csv.specs.Machine.{next_record}
use Rattle.csv.specs.Reading.{default_config, strip_bom}
use Rattle.csv.specs.Records.{field_at}
use Rattle.csv.specs.declared.parser.State.TheVariants.{StartRecord}
use Rattle.serde_json.specs.Read.{read as read_text}
use Rattle.std.specs.Io.BufRead.{drop_through, take_through}
use Rattle.std.specs.Prelude.{◌≡◌, ◌≢◌, ◌-◌, ◌<◌, ℕ, List, None, Option, Some, [], codes, if◌then◌else◌, option_map, slice_index, unwrap_or}
use Rattle.std.specs.Str.{is_utf8}
use Rattle.bstr.specs.Text.{without_terminator}
use Rattle.urlpat_matching.specs.declared.command.{Field.Field, FieldName.FieldName, LineFormat.LineFormat}
use Rattle.urlpat_matching.specs.declared.command.FieldName.TheVariants as names
use Rattle.urlpat_matching.specs.declared.command.LineFormat.TheVariants as formats
use Rattle.urlpat_tables.specs.declared.fields.Place.{Place}
use Rattle.urlpat_tables.specs.declared.fields.Place.TheVariants as places
use Rattle.urlpattern_inputs.specs.Trees.{◌>>=◌, text_read}

-- The fields of a line, with this byte between them, as CSV is read. Empty for an empty line.
abbrev pub fields_in : (delimiter : ℕ) → (line : List ℕ) → List (List ℕ)
fields_in delimiter line =
    unwrap_or (option_map (λ found. found.0)
    (next_record (record default_config { delimiter = delimiter }) StartRecord [] []
    (strip_bom line))) []

-- The text of the member with this name, of a text in JSON. None: the text is not JSON, or has no
-- such member, or the member is not a string.
abbrev pub member_of : (name text : List ℕ) → Option (List ℕ)
member_of name text = read_text text >>= text_read name

-- The field, if it is UTF-8.
abbrev pub utf8_text : (field : List ℕ) → Option (List ℕ)
utf8_text field = if is_utf8 field then Some field else None

-- The text of a line at a place. None: the line has no such field, or it is not UTF-8.
abbrev pub field_of : Place → (line : List ℕ) → Option (List ℕ)
field_of places.Whole line = Some line
field_of (places.Field delimiter index) line =
    field_at (fields_in delimiter line) index >>= utf8_text
field_of (places.Member name) line = member_of name.now line

-- The field at the index is the first of a header with this name.
abbrev pub IsFirstNamed : (header : List (List ℕ)) → (name : List ℕ) → (index : ℕ) → Type 0
IsFirstNamed header name index =
    (field_at header index ≡ Some name)
    × ((earlier : ℕ) → earlier < index → field_at header earlier ≢ Some name)

-- ---- what is asked for

-- The byte between the fields of a line.
abbrev pub delimiter_of : LineFormat → ℕ
delimiter_of formats.Tsv = slice_index (codes "\t") 0
delimiter_of format = slice_index (codes ",") 0

-- The place of a member of an object in JSON, which is asked for by its name.
abbrev pub IsMemberPlace : FieldName → Place → Type 0
IsMemberPlace (names.Name name) place = place ≡ places.Member name
IsMemberPlace (names.Number number) place = ⊥

-- The place of the field with this number, from 1 on, of records with this byte between fields.
abbrev pub IsNumberedPlace : (delimiter number : ℕ) → Place → Type 0
IsNumberedPlace delimiter number place =
    (0 < number) × (place ≡ places.Field delimiter (number - 1))

-- The place of the first field of a header that has this name.
abbrev pub IsNamedPlace : (delimiter : ℕ) → (name header : List ℕ) → Place → Type 0
IsNamedPlace delimiter name header place =
    (index : ℕ) × IsFirstNamed (fields_in delimiter (without_terminator header)) name index
    × (place ≡ places.Field delimiter index)

-- The place of a field of records whose text is `text`; the header that is read before them, if the
-- field is asked for by its name; and the text that is left.
abbrev pub IsColumnPlaced : (delimiter : ℕ) → FieldName → (text : List ℕ) → Place
    → (header rest : List ℕ) → Type 0
IsColumnPlaced delimiter (names.Number number) text place header rest =
    IsNumberedPlace delimiter number place × (header ≡ []) × (rest ≡ text)
IsColumnPlaced delimiter (names.Name name) text place header rest =
    (header ≡ take_through 10 text) × (rest ≡ drop_through 10 text)
    × IsNamedPlace delimiter name.now header place

-- The place of a field of lines in a format, of which only CSV and TSV have a header.
abbrev pub IsFieldPlaced : LineFormat → FieldName → (text : List ℕ) → Place
    → (header rest : List ℕ) → Type 0
IsFieldPlaced formats.Json name text place header rest =
    IsMemberPlace name place × (header ≡ []) × (rest ≡ text)
IsFieldPlaced format name text place header rest =
    IsColumnPlaced (delimiter_of format) name text place header rest

-- The place of the URL in lines whose text is `text`, which are URLs if no field is asked for; the
-- header that is read before them; and the text that is left.
abbrev pub IsPlaced : (asked : Option Field) → (text : List ℕ) → Place → (header rest : List ℕ)
    → Type 0
IsPlaced None text place header rest =
    (place ≡ places.Whole) × (header ≡ []) × (rest ≡ text)
IsPlaced (Some asked) text place header rest =
    IsFieldPlaced asked.format asked.name text place header rest
