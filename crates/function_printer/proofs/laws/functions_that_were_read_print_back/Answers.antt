use Rattle.function_printer.proofs.FileReads.{reads_again}
use Rattle.function_printer.proofs.FreeMarks.{free_mark_of}
use Rattle.function_printer.proofs.laws.functions_that_were_read_print_back.Goals as goal

pub returns : goal.returns
returns c = λ z f u short h. reads_again c.a_condition_ends_with_no_end.ensures c.a_range_ends_with_no_end.ensures free_mark_of z f u short h
