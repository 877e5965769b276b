-- A function that a run has judged is that of the text of its file.
use Rattle.std.proofs.Common.{ap, List, ℕ}
use Rattle.away_trees.specs.declared.schemas.Schema.{Schema}
use Rattle.cte_prints.specs.Texts.{IsOfTexts}
use Rattle.away_top.specs.declared.host.Files.{Ghosts as Files}
use Rattle.away_top.specs.Files.{Callable, function_course}
use Rattle.away_top.specs.Runs.{goes_on, Follows}
use Rattle.away_top.proofs.Reading.{function_read}

pub of_texts : {D : Type 0} (F : Files D) (old new : D) (func : List ℕ) (tables : Schema) (f : Callable)
    → Follows F old (function_course tables func) new (goes_on f) → IsOfTexts tables f.function f.slots
of_texts F old new func tables f followed =
    let c = function_read F old new tables func f followed in
    record {
      written = c.called.written;
      limits = c.called.reads_as.within_limits;
      checked = record { unbroken = c.called.unbroken; function = ap (λ (x : Callable). x.function) c.is; slots_are = ap (λ (x : Callable). x.slots) c.is };
      function_text = c.bytes;
      function_fits = c.called.reads_as.may_be_read;
      reads_function = c.called.reads_as.reads;
    }
