-- What was told of a trial is told of its case.
use Rattle.std.proofs.Common.{◌≡◌, ◌∙◌, ap, subst, sym, ℕ, ◌≤◌, ◌+◌, ◌*◌, List, [], ◌∷◌, Result, Ok, Err, IfOk}
use Rattle.away_values.specs.declared.errors.NoMemory.{NoMemory}
use Rattle.away_trees.specs.Count.{nodes, weight}
use Rattle.away_trees.specs.declared.statements.Function.{Function}
use Rattle.away_types.specs.CheckedQueries.{resolved_query}
use Rattle.away_gen.specs.Texts.{IsCase}
use Rattle.away_gen.specs.declared.case.DemoCase.{DemoCase}
use Rattle.cte_prints.specs.Texts.{IsOfTexts}
use Rattle.demonstration.specs.Summary.{AreRuns, IsOver, IsSummary, iterations_for}
use Rattle.demonstration.specs.Trial.{IsTrial}
use Rattle.demonstration.specs.declared.summary.Summary.{Summary}
use Rattle.demonstration.specs.declared.trial.Trial.{Trial}

-- the weight by the nodes
weighed : (f : Function) (n : ℕ) → n ≡ nodes f → 16 * (n + 1) ≡ weight f
unfolding weight
weighed f n is = ap (λ k. 16 * (k + 1)) is

-- the function of a trial has few nodes
pub few_nodes : (case : DemoCase) (trial : Trial) → IsTrial case trial → trial.counted.nodes ≤ 500
few_nodes case trial t = subst (λ n. n ≤ 500) (sym t.counted.nodes_are) t.function_reads.within_limits.few_nodes

pub summary_is : (number : ℕ) (text : List ℕ) (case : DemoCase) (trial : Trial) (summary : Summary)
    → IsCase number case → IsTrial case trial → IsOver number text trial case.args summary → IsSummary number text summary
summary_is number text case trial summary made t over =
    let f = trial.counted.function.function in
    let slots = trial.counted.function.slots in
    let q = resolved_query trial.schema.schema over.query in
    let same_rows = subst (λ tables. AreRuns f slots q tables case.args (iterations_for (16 * (trial.counted.nodes + 1))) summary.runs) t.tables_are over.runs in
    record {
      case = case;
      case_is = made;
      schema = trial.schema.schema;
      schema_reads = t.schema_reads;
      written = t.written;
      function_reads = t.function_reads;
      rows = t.rows;
      table_holds = t.table_holds;
      function = f;
      slots = slots;
      checked = t.counted.checked;
      query = over.query;
      compiled = over.compiled;
      number_is = over.number_is;
      nodes_are = over.nodes_are ∙ t.counted.nodes_are;
      bytes_are = over.bytes_are;
      runs = subst (λ w. AreRuns f slots q (t.rows ∷ []) case.args (iterations_for w) summary.runs) (weighed t.written trial.counted.nodes t.counted.nodes_are) same_rows;
    }

pub summary_made : (number : ℕ) (case : DemoCase) (trial : Trial) (result : Result Summary NoMemory) → IsCase number case → IsTrial case trial
    → IfOk result (λ summary. (text : List ℕ) × IsOver number text trial case.args summary) → IfOk result (λ summary. (text : List ℕ) × IsSummary number text summary)
summary_made number case trial (Ok summary) made t (text, over) = (text, summary_is number text case trial summary made t over)
summary_made number case trial (Err e) made t over = tt

-- the function of a trial is that of the case's text
pub of_texts : (case : DemoCase) (trial : Trial) → IsTrial case trial → IsOfTexts trial.schema.schema trial.counted.function.function trial.counted.function.slots
of_texts case trial t = record {
  written = t.written;
  limits = t.function_reads.within_limits;
  checked = t.counted.checked;
  function_text = case.function.items;
  function_fits = t.function_reads.may_be_read;
  reads_function = t.function_reads.reads;
}
