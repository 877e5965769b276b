-- The case of the number 7: its first draws, and the beginning of its texts.
use Rattle.std.specs.Prelude.{◌≡◌, ◌+◌, ◌∷◌, [], ◌++◌, codes, flat_map, length, take}
use Rattle.away_gen.specs.declared.parts.Kind.TheVariants.{Add, Query}
use Rattle.away_gen.specs.Draws.{after, draw}
use Rattle.away_gen.specs.Parts.{parts_of, row_from}
use Rattle.away_gen.specs.Texts.{line, statement_text, table_text}

pub record DrawsOfSeven : Type 0 where
  pub first_state : after 1 7 ≡ 9098160460397411210
  pub second_state : after 2 7 ≡ 17628806926561717905
  pub rows : 50 + draw 1 50 7 ≡ 78
  pub first_row : row_from (after 1 7) ≡ record { src = 1; dst = 3; cost = 673 }

pub record PartsOfSeven : Type 0 where
  pub rows : length (parts_of 7).rows ≡ 78
  pub first : (parts_of 7).first ≡ 374
  pub second : (parts_of 7).second ≡ 54
  pub statements : length (parts_of 7).statements ≡ 53
  pub first_statements : take 2 (parts_of 7).statements
      ≡ record { kind = Add; target = 0; source = 3; constant = 3 } ∷ record { kind = Query; target = 1; source = 2; constant = 57 } ∷ []

pub record TextsOfSeven : Type 0 where
  pub table : table_text (take 3 (parts_of 7).rows) ≡ codes "src,dst,cost\n1,3,673\n5,9,864\n4,9,686\n"
  pub function : flat_map (λ s. line (statement_text s)) (take 8 (parts_of 7).statements)
      ≡ codes "v0 := v3 + 3;\n"
      ++ codes "v1 := COALESCE((SELECT max(r.cost) FROM route r WHERE r.src = v2 % 10), 0);\n"
      ++ codes "v1 := v0 + 6;\n"
      ++ codes "IF v0 > v0 THEN v0 := v0 - v0; ELSE v0 := v0 + 1; END IF;\n"
      ++ codes "v3 := COALESCE((SELECT max(r.cost) FROM route r WHERE r.src = v2 % 10), 0);\n"
      ++ codes "v2 := v1 * 69 % 1000000;\n"
      ++ codes "v0 := v0 + 87;\n"
      ++ codes "FOR k IN 1..57 LOOP v3 := v3 + k; EXIT WHEN v3 % 7 = 3; END LOOP;\n"
