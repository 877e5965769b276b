-- What the two words about the program itself write.
use Rattle.std.specs.Prelude.{ℕ, List, codes}

abbrev pub help_text : List ℕ
help_text = codes "away compile SCHEMA FUNC                 write the query that the function in FUNC becomes, over the tables of SCHEMA\naway certify SCHEMA FUNC                 write a certificate of that query, a line, and behind it the query\naway batch SCHEMA FUNC TABLE             write one query in which each row of the table TABLE of SCHEMA is a call of the function in FUNC\naway untail SCHEMA FUNC                  write the function in FUNC with its calls of itself as turns of a loop\naway expand SCHEMA MAIN FUNC..           write the function in MAIN with its calls of those in FUNC.. expanded\naway inline SCHEMA QUERY FUNC            write the query in QUERY with its calls of the function in FUNC as subqueries over one recursive part\naway explain SCHEMA FUNC                 write where and why the function or the query in FUNC is refused, or its counts, with those of the query that a function becomes\naway unroll K SCHEMA FUNC                write a query that the function in FUNC becomes, in which one iteration runs up to K turns, from 1 to 64\naway unrolled BOUND K SCHEMA FUNC DIR ARG..  write what that query answers over the tables in DIR, within BOUND iterations\naway check SCHEMA FUNC QUERY CERT         write whether the certificate in CERT shows that the query in QUERY answers as the function in FUNC\naway format FUNC                         write the function in FUNC as the one text that it prints as\naway sql BOUND SCHEMA QUERY DIR ARG..    write what the query in QUERY answers over the tables in DIR, within BOUND iterations\naway rows BOUND SCHEMA QUERY DIR ARG..   write the rows that the query in QUERY gives over the tables in DIR, within BOUND iterations\naway fn BOUND SCHEMA FUNC DIR ARG..      write what the function in FUNC answers over the tables in DIR, within BOUND turns\naway demo N                              make the case of the number N, and write how long its function and its query are and what they answer\naway --help                              write these lines\naway --version                           write the program's name and version\n"

abbrev pub version_text : List ℕ
version_text = codes "away 0.1.0\n"
