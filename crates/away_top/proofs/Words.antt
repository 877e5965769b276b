-- The commands that words of each form ask for.
use Rattle.std.proofs.Common.{◌≡◌, refl, ℕ, List, [], ◌∷◌, codes}
use Rattle.away_top.specs.declared.compile.Wanted.{Wanted}
use Rattle.away_top.specs.declared.compile.Wanted.TheVariants as wanted
use Rattle.away_top.specs.declared.over_tables.program.Runnable.{Runnable}
use Rattle.away_top.specs.declared.over_tables.program.Runnable.TheVariants as runnable
use Rattle.away_top.specs.Commands.{batch, check, command_of, compile, demo, expand, explain, format, inline, over_tables, unroll, unrolled, untail}
use Rattle.away_top.specs.CompileCourse.{word_of as compile_word}
use Rattle.away_top.specs.Programs.{word_of}

pub asks_compile : (w : Wanted) (schema func : List ℕ) → command_of (compile_word w ∷ schema ∷ func ∷ []) ≡ compile w schema func
unfolding command_of
asks_compile wanted.Query schema func = refl
asks_compile wanted.Certificate schema func = refl

pub asks_batch : (schema func table : List ℕ) → command_of (codes "batch" ∷ schema ∷ func ∷ table ∷ []) ≡ batch schema func table
unfolding command_of
asks_batch schema func table = refl

pub asks_check : (schema func query cert : List ℕ) → command_of (codes "check" ∷ schema ∷ func ∷ query ∷ cert ∷ []) ≡ check schema func query cert
unfolding command_of
asks_check schema func query cert = refl

pub asks_untail : (schema func : List ℕ) → command_of (codes "untail" ∷ schema ∷ func ∷ []) ≡ untail schema func
unfolding command_of
asks_untail schema func = refl

pub asks_expand : (schema main : List ℕ) (others : List (List ℕ)) → command_of (codes "expand" ∷ schema ∷ main ∷ others) ≡ expand schema main others
unfolding command_of
asks_expand schema main others = refl

pub asks_format : (func : List ℕ) → command_of (codes "format" ∷ func ∷ []) ≡ format func
unfolding command_of
asks_format func = refl

pub asks_demo : (number : List ℕ) → command_of (codes "demo" ∷ number ∷ []) ≡ demo number
unfolding command_of
asks_demo number = refl

pub asks_run : (what : Runnable) (bound schema file dir : List ℕ) (args : List (List ℕ))
    → command_of (word_of what ∷ bound ∷ schema ∷ file ∷ dir ∷ args) ≡ over_tables what bound schema file dir args
unfolding command_of
asks_run runnable.Query bound schema file dir args = refl
asks_run runnable.Rows bound schema file dir args = refl
asks_run runnable.Function bound schema file dir args = refl

pub asks_inline : (schema query func : List ℕ) → command_of (codes "inline" ∷ schema ∷ query ∷ func ∷ []) ≡ inline schema query func
unfolding command_of
asks_inline schema query func = refl

pub asks_unroll : (turns schema func : List ℕ) → command_of (codes "unroll" ∷ turns ∷ schema ∷ func ∷ []) ≡ unroll turns schema func
unfolding command_of
asks_unroll turns schema func = refl

pub asks_unrolled : (bound turns schema func dir : List ℕ) (args : List (List ℕ))
    → command_of (codes "unrolled" ∷ bound ∷ turns ∷ schema ∷ func ∷ dir ∷ args) ≡ unrolled bound turns schema func dir args
unfolding command_of
asks_unrolled bound turns schema func dir args = refl

pub asks_explain : (schema func : List ℕ) → command_of (codes "explain" ∷ schema ∷ func ∷ []) ≡ explain schema func
unfolding command_of
asks_explain schema func = refl
