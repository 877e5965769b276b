-- Bytes that read as a tree aren't refused by the reader of such trees.
use Rattle.std.proofs.Common.{◌≡◌, ◌∙◌, ℕ, List, Ok, refl, sym, subst, arith}
use Rattle.std.proofs.lemmas.Option.{same_Some}
use Rattle.away_trees.specs.declared.statements.Function.{Function}
use Rattle.away_trees.specs.Limits.{KeepsLimits}
use Rattle.away_grammar.specs.FunctionGrammar.{ReadsFunction}
use Rattle.away_grammar.specs.Nesting.{IsNesting}
use Rattle.away_lex.specs.declared.refusals.LimitKind.{LimitKind}
use Rattle.away_lex.specs.declared.refusals.LimitKind.TheVariants as limit
use Rattle.away_lex.specs.declared.refusals.ReadRefusal.{ReadRefusal}
use Rattle.away_lex.specs.declared.refusals.ReadRefusal.TheVariants.{NotText, Token, NoTree, Outside, Limit, NoMemory}
use Rattle.away_lex.proofs.Reading.{one_list}
use Rattle.cert_json.specs.Certificates as certificates
use Rattle.cert_json.specs.Certificates.{cert_in}
use Rattle.cert_json.specs.Forms.{Cert}
use Rattle.cert_json.specs.declared.cert.CertRefusal.{CertRefusal}
use Rattle.cert_json.specs.declared.cert.CertRefusal.TheVariants as forms
use Rattle.plsql_parse.specs.Refusals as functions
use Rattle.plsql_parse.proofs.OneFile.{one_function}
use Rattle.sql_text.specs.Refusals as texts
use Rattle.text_laws.proofs.OneList.{one_file, one_nesting}

-- ---- schemas and queries

module _ {A : Type 0} (Trees : A → Type 0) (bytes : List ℕ) (may : texts.MayBeRead bytes) (tree : A) (reads : Trees tree) where
  pub text_kept : (why : ReadRefusal) → texts.Refuses Trees bytes why → why ≡ NoMemory
  text_kept NotText h = absurd (h may.1.1.text)
  text_kept (Token offset) h = absurd (let same = one_list may.1.1.tokens_are h.1.1 in cc)
  text_kept NoTree h = absurd (h.1 tree reads)
  text_kept (Outside word) h = absurd h
  text_kept (Limit which found) h =
      absurd
      (let same = one_list h.1.1.tokens_are may.1.1.tokens_are in
      let nests = one_nesting (subst (λ ts. IsNesting ts found) same.0 h.1.1.nesting_is) may.1.1.nesting_is in
      omega (arith, nests, h.2, may.1.2))
  text_kept NoMemory h = refl

-- ---- functions

module _ (bytes : List ℕ) (may : functions.MayBeRead bytes) (f : Function) (reads : ReadsFunction bytes f) (limits : KeepsLimits f) where
  kept_count : (which : LimitKind) (found : ℕ) → ¬ (functions.CountExceeds f which found)
  kept_count limit.Nesting found h = h
  kept_count limit.Nodes found h = omega (arith, h.0, h.1, limits.few_nodes)
  kept_count limit.Variables found h = omega (arith, h.1, h.2, limits.few_variables)
  kept_count limit.Loops found h = omega (arith, h.2, h.3, limits.few_loops)

  other_count : (which : LimitKind) (found : ℕ) (g : Function) → ReadsFunction bytes g → ¬ (functions.CountExceeds g which found)
  other_count which found g r h = kept_count which found (subst (λ g. functions.CountExceeds g which found) (one_function r reads) h)

  within : (which : LimitKind) (found : ℕ) → ¬ (functions.Exceeds which bytes found)
  within limit.Nesting found h =
      let lists = h.0.1.1 in
      let kept = may.1.1 in
      let same = one_file lists.lists_are kept.1.lists_are in
      let nests = one_nesting (subst (λ ts. IsNesting ts found) same.1 lists.nesting_is) kept.1.nesting_is in
      omega (arith, nests, h.1, kept.2)
  within limit.Nodes found h = other_count limit.Nodes found h.1.0 h.1.1 h.1.2
  within limit.Variables found h = other_count limit.Variables found h.1.0 h.1.1 h.1.2
  within limit.Loops found h = other_count limit.Loops found h.1.0 h.1.1 h.1.2

  pub function_kept : (why : ReadRefusal) → functions.Refuses bytes why → why ≡ NoMemory
  function_kept NotText h = absurd (h may.1.1.1.text)
  function_kept (Token offset) h = absurd (let same = one_file may.1.1.1.lists_are h.1.1.1 in cc)
  function_kept NoTree h = absurd (h.0 f reads)
  function_kept (Outside word) h = absurd (h.0 f reads)
  function_kept (Limit which found) h = absurd (within which found h)
  function_kept NoMemory h = refl

-- ---- certificates

pub cert_kept : (bytes : List ℕ) (c : Cert) → certificates.Reads bytes c → (why : CertRefusal) → certificates.Refuses bytes why → why ≡ forms.NoMemory
cert_kept bytes c reads forms.NotJson h = absurd (h reads.0 reads.1)
cert_kept bytes c reads (forms.Field field) h =
    let same = same_Some reads.0 h.0 (sym reads.1.1 ∙ h.1.1) in
    absurd (let other = subst (λ d. cert_in d ≡ Ok c) same reads.2 in let found = h.2 in cc)
cert_kept bytes c reads forms.NoMemory h = refl
