-- What to write in place of a word that stands outside the language (docs/REFUSALS.md has the table).
use Rattle.std.specs.Prelude.{ℕ, Bool, List, [], ◌∷◌, ◌++◌, Option, Some, None, if◌then◌else◌, codes}
use Rattle.std.specs.List.{list_any}
use Rattle.std.specs.Str.{bytes_eq}
use Rattle.refusal_reasons.specs.declared.instead.Advice.{Advice}
use Rattle.refusal_reasons.specs.declared.instead.Advice.TheVariants.{
  OwnName,
  TableOfValues,
  RaiseWhere,
  OwnStatements,
  LoopByKey,
  NoCollation,
  NoTransactions,
  JoinByWhere,
  NoMessages,
  NoChanges,
  CountRows,
  NoEarlierRow,
  TestBefore,
  ChosenQuery,
  PlacesByFor,
  NoOuterJoin,
  CountInList,
  PartsOfText,
  OneResult,
  ExistsInOther,
  RowInList,
  OneRow,
  LeastUnits,
  RowsBefore,
  ExistsTest,
  VariableForEach,
  NoSettings,
  NoTriggers,
  WhereForUsing,
  ParameterForEach,
  QueryWhereUsed,
}

-- a word in lower case, and what is said of it
pub record Entry : Type 0 where
  pub word : List ℕ
  pub advice : Advice

abbrev pub entry : List ℕ → Advice → Entry
entry word advice = record { word = word; advice = advice }

-- each word outside the language, and EXCEPTION, which stands outside before WHEN alone
abbrev pub table : List Entry
table =
    entry (codes "alias") OwnName
    ∷ entry (codes "array") TableOfValues
    ∷ entry (codes "assert") RaiseWhere
    ∷ entry (codes "call") OwnStatements
    ∷ entry (codes "close") LoopByKey
    ∷ entry (codes "collate") NoCollation
    ∷ entry (codes "commit") NoTransactions
    ∷ entry (codes "cross") JoinByWhere
    ∷ entry (codes "cursor") LoopByKey
    ∷ entry (codes "debug") NoMessages
    ∷ entry (codes "delete") NoChanges
    ∷ entry (codes "diagnostics") CountRows
    ∷ entry (codes "distinct") NoEarlierRow
    ∷ entry (codes "exception") TestBefore
    ∷ entry (codes "execute") ChosenQuery
    ∷ entry (codes "fetch") LoopByKey
    ∷ entry (codes "foreach") PlacesByFor
    ∷ entry (codes "full") NoOuterJoin
    ∷ entry (codes "get") CountRows
    ∷ entry (codes "group") CountInList
    ∷ entry (codes "having") CountInList
    ∷ entry (codes "ilike") PartsOfText
    ∷ entry (codes "info") NoMessages
    ∷ entry (codes "inout") OneResult
    ∷ entry (codes "insert") NoChanges
    ∷ entry (codes "intersect") ExistsInOther
    ∷ entry (codes "join") JoinByWhere
    ∷ entry (codes "left") RowInList
    ∷ entry (codes "like") PartsOfText
    ∷ entry (codes "log") NoMessages
    ∷ entry (codes "merge") NoChanges
    ∷ entry (codes "move") LoopByKey
    ∷ entry (codes "next") OneRow
    ∷ entry (codes "notice") NoMessages
    ∷ entry (codes "numeric") LeastUnits
    ∷ entry (codes "open") LoopByKey
    ∷ entry (codes "out") OneResult
    ∷ entry (codes "over") RowsBefore
    ∷ entry (codes "perform") ExistsTest
    ∷ entry (codes "query") OneRow
    ∷ entry (codes "record") VariableForEach
    ∷ entry (codes "right") NoOuterJoin
    ∷ entry (codes "rollback") NoTransactions
    ∷ entry (codes "security") NoSettings
    ∷ entry (codes "set") NoSettings
    ∷ entry (codes "setof") OneRow
    ∷ entry (codes "similar") PartsOfText
    ∷ entry (codes "slice") PlacesByFor
    ∷ entry (codes "trigger") NoTriggers
    ∷ entry (codes "update") NoChanges
    ∷ entry (codes "using") WhereForUsing
    ∷ entry (codes "variadic") ParameterForEach
    ∷ entry (codes "warning") NoMessages
    ∷ entry (codes "window") RowsBefore
    ∷ entry (codes "with") QueryWhereUsed
    ∷ []

abbrev pub text_of : Advice → List ℕ
text_of OwnName = codes "use the parameter's own name"
text_of TableOfValues =
    codes "write a table with a place and a value in each row, or a text, by length and "
    ++ codes "substr"
text_of RaiseWhere = codes "write IF .. THEN RAISE EXCEPTION '..'; END IF;"
text_of OwnStatements = codes "no procedure is called; write its statements here"
text_of LoopByKey =
    codes "write a loop by key: k := (SELECT min(t.k) FROM t); WHILE k IS NOT NULL LOOP .. "
    ++ codes "k := (SELECT min(t.k) FROM t WHERE t.k > k); END LOOP;"
text_of NoCollation = codes "texts are compared by their bytes; leave it out"
text_of NoTransactions = codes "a function with transactions becomes no query"
text_of JoinByWhere = codes "write FROM t, u WHERE t.k = u.k"
text_of NoMessages = codes "leave the message out; only RAISE EXCEPTION is read"
text_of NoChanges = codes "a function that changes tables becomes no query"
text_of CountRows = codes "write EXISTS or count(*) in place of FOUND and ROW_COUNT"
text_of NoEarlierRow =
    codes "write NOT EXISTS over the rows before, as WHERE NOT EXISTS (SELECT s.k FROM t "
    ++ codes "AS s WHERE s.v = t.v AND s.k < t.k)"
text_of TestBefore = codes "write a test before: IF n = 0 THEN RETURN NULL; END IF;"
text_of ChosenQuery = codes "write IF or CASE over the queries that it may be"
text_of PlacesByFor = codes "write FOR i IN 1 .. n LOOP over the places"
text_of NoOuterJoin =
    codes "no outer join is read; LEFT JOIN is often (SELECT u.w FROM u WHERE u.k = t.k) "
    ++ codes "in the list"
text_of CountInList = codes "write (SELECT count(*) FROM t AS s WHERE s.v = t.v) in the list"
text_of PartsOfText = codes "write length and substr, as substr(s, 1, 1) = 'a'"
text_of OneResult = codes "write a function for each result"
text_of ExistsInOther = codes "write WHERE EXISTS over the other query"
text_of RowInList =
    codes "write (SELECT u.w FROM u WHERE u.k = t.k) in the list, where u has one row at "
    ++ codes "most; left(s, n) is substr(s, 1, n)"
text_of OneRow = codes "write a function of a row's number, or the query itself"
text_of LeastUnits = codes "write bigint in the least unit, as (n * 119 + 50) / 100"
text_of RowsBefore =
    codes "write a subquery over the rows before, as (SELECT CAST(sum(s.k) AS bigint) FROM "
    ++ codes "t AS s WHERE s.k <= t.k)"
text_of ExistsTest = codes "write IF EXISTS (SELECT ..) THEN"
text_of VariableForEach =
    codes "declare a variable for each column, and set them all by one SELECT INTO"
text_of NoSettings = codes "leave it out of the header; the query runs as the one who asks it"
text_of NoTriggers = codes "triggers become no query"
text_of WhereForUsing =
    codes "write WHERE t.k = u.k; of RAISE write SQLSTATE '22003' in place of USING ERRCODE"
text_of ParameterForEach = codes "write a parameter for each argument"
text_of QueryWhereUsed =
    codes "write the query where it is used, or SELECT INTO a variable before"

-- what the first entry of the word has
abbrev pub advice_by : List Entry → List ℕ → Option Advice
advice_by [] word = None
advice_by (x ∷ xs) word = if bytes_eq word x.word then Some x.advice else advice_by xs word

-- what is said of any word in lower case
unfoldable pub advice_for : List ℕ → Option Advice
advice_for word = advice_by table word

abbrev pub advised : Option Advice → List ℕ
advised None = codes "this word stands outside the language"
advised (Some advice) = text_of advice

abbrev pub instead_of : List ℕ → List ℕ
instead_of word = advised (advice_for word)

-- whether an entry is the word's
abbrev pub has_entry : List ℕ → Bool
has_entry word = list_any (λ (x : Entry). bytes_eq word x.word) table
