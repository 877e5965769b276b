-- Reading a certificate field by field, each being there in its shape or not.
use Rattle.std.proofs.Common.{◌≡◌, ℕ, true, List, [], ◌∷◌, is_some, Option, Some, None, Ok, Err, codes, option_and_then, refl, subst}
use Rattle.std.specs.List.{AllByRecursion}
use Rattle.std.specs.Option.{ok_or}
use Rattle.serde_json.specs.Find.{get}
use Rattle.cert_json.specs.declared.cert.CertField.{CertField}
use Rattle.cert_json.specs.declared.cert.CertField.TheVariants as field
use Rattle.cert_json.specs.Forms.{Ty, Block, SsaBlock, AnfBlock, Cert}
use Rattle.cert_json.specs.Spellings.{many, number_in, type_in}
use Rattle.cert_json.specs.Blocks.{anf_block_in, block_in, ssa_block_in}
use Rattle.cert_json.specs.Certificates.{Or, ◌>>=◌, anf_in, cert_in, goto_in, ssa_in, tail_in, within}
use Rattle.cert_json.specs.FirstLaws.{FirstDecides, IsFirst, within_goto, within_ssa}

abbrev built : Option ℕ → Option ℕ → Option (List ℕ) → Option (List Block) → Option (List ℕ) → Option (List SsaBlock) → Option (List AnfBlock) → Option (List ℕ) → Option (List Ty) → Option (List (List ℕ)) → Or Cert
built o0 o1 o2 o3 o4 o5 o6 o7 o8 o9 = do
  goto ← do
    entry ← ok_or o0 field.GotoEntry
    finish ← ok_or o1 field.GotoEnd
    nodes ← ok_or o2 field.GotoNodes
    blocks ← ok_or o3 field.GotoBlocks
    Ok (record { entry = entry; finish = finish; nodes = nodes; blocks = blocks })
  ssa ← do
    names ← ok_or o4 field.SsaNames
    blocks ← ok_or o5 field.SsaBlocks
    Ok (record { names = names; blocks = blocks })
  anf ← do
    blocks ← ok_or o6 field.AnfBlocks
    Ok (record { blocks = blocks })
  tail ← do
    labels ← ok_or o7 field.Labels
    columns ← ok_or o8 field.Columns
    places ← ok_or o9 field.Places
    Ok (record { labels = labels; columns = columns; places = places })
  Ok (record { goto = goto; ssa = ssa; anf = anf; tail = tail })

err_is : (a b : CertField) → ◌≡◌ {A = Or Cert} (Err a) (Err b) → a ≡ b
err_is a b e = cc

first_of : (o0 : Option ℕ) (o1 : Option ℕ) (o2 : Option (List ℕ)) (o3 : Option (List Block)) (o4 : Option (List ℕ)) (o5 : Option (List SsaBlock)) (o6 : Option (List AnfBlock)) (o7 : Option (List ℕ)) (o8 : Option (List Ty)) (o9 : Option (List (List ℕ))) (f : CertField) → built o0 o1 o2 o3 o4 o5 o6 o7 o8 o9 ≡ Err f → IsFirst (is_some o0 ∷ is_some o1 ∷ is_some o2 ∷ is_some o3 ∷ is_some o4 ∷ is_some o5 ∷ is_some o6 ∷ is_some o7 ∷ is_some o8 ∷ is_some o9 ∷ []) f
first_of None o1 o2 o3 o4 o5 o6 o7 o8 o9 f e = subst (IsFirst _) (err_is field.GotoEntry f e) (record { lacks = refl; before = tt })
first_of (Some x0) None o2 o3 o4 o5 o6 o7 o8 o9 f e = subst (IsFirst _) (err_is field.GotoEnd f e) (record { lacks = refl; before = (refl, tt) })
first_of (Some x0) (Some x1) None o3 o4 o5 o6 o7 o8 o9 f e = subst (IsFirst _) (err_is field.GotoNodes f e) (record { lacks = refl; before = (refl, (refl, tt)) })
first_of (Some x0) (Some x1) (Some x2) None o4 o5 o6 o7 o8 o9 f e = subst (IsFirst _) (err_is field.GotoBlocks f e) (record { lacks = refl; before = (refl, (refl, (refl, tt))) })
first_of (Some x0) (Some x1) (Some x2) (Some x3) None o5 o6 o7 o8 o9 f e = subst (IsFirst _) (err_is field.SsaNames f e) (record { lacks = refl; before = (refl, (refl, (refl, (refl, tt)))) })
first_of (Some x0) (Some x1) (Some x2) (Some x3) (Some x4) None o6 o7 o8 o9 f e = subst (IsFirst _) (err_is field.SsaBlocks f e) (record { lacks = refl; before = (refl, (refl, (refl, (refl, (refl, tt))))) })
first_of (Some x0) (Some x1) (Some x2) (Some x3) (Some x4) (Some x5) None o7 o8 o9 f e = subst (IsFirst _) (err_is field.AnfBlocks f e) (record { lacks = refl; before = (refl, (refl, (refl, (refl, (refl, (refl, tt)))))) })
first_of (Some x0) (Some x1) (Some x2) (Some x3) (Some x4) (Some x5) (Some x6) None o8 o9 f e = subst (IsFirst _) (err_is field.Labels f e) (record { lacks = refl; before = (refl, (refl, (refl, (refl, (refl, (refl, (refl, tt))))))) })
first_of (Some x0) (Some x1) (Some x2) (Some x3) (Some x4) (Some x5) (Some x6) (Some x7) None o9 f e = subst (IsFirst _) (err_is field.Columns f e) (record { lacks = refl; before = (refl, (refl, (refl, (refl, (refl, (refl, (refl, (refl, tt)))))))) })
first_of (Some x0) (Some x1) (Some x2) (Some x3) (Some x4) (Some x5) (Some x6) (Some x7) (Some x8) None f e = subst (IsFirst _) (err_is field.Places f e) (record { lacks = refl; before = (refl, (refl, (refl, (refl, (refl, (refl, (refl, (refl, (refl, tt))))))))) })
first_of (Some x0) (Some x1) (Some x2) (Some x3) (Some x4) (Some x5) (Some x6) (Some x7) (Some x8) (Some x9) f e = absurd (cc)

all_of : (o0 : Option ℕ) (o1 : Option ℕ) (o2 : Option (List ℕ)) (o3 : Option (List Block)) (o4 : Option (List ℕ)) (o5 : Option (List SsaBlock)) (o6 : Option (List AnfBlock)) (o7 : Option (List ℕ)) (o8 : Option (List Ty)) (o9 : Option (List (List ℕ))) (c : Cert) → built o0 o1 o2 o3 o4 o5 o6 o7 o8 o9 ≡ Ok c → AllByRecursion (λ b. b ≡ true) (is_some o0 ∷ is_some o1 ∷ is_some o2 ∷ is_some o3 ∷ is_some o4 ∷ is_some o5 ∷ is_some o6 ∷ is_some o7 ∷ is_some o8 ∷ is_some o9 ∷ [])
all_of None o1 o2 o3 o4 o5 o6 o7 o8 o9 c e = absurd (cc)
all_of (Some x0) None o2 o3 o4 o5 o6 o7 o8 o9 c e = absurd (cc)
all_of (Some x0) (Some x1) None o3 o4 o5 o6 o7 o8 o9 c e = absurd (cc)
all_of (Some x0) (Some x1) (Some x2) None o4 o5 o6 o7 o8 o9 c e = absurd (cc)
all_of (Some x0) (Some x1) (Some x2) (Some x3) None o5 o6 o7 o8 o9 c e = absurd (cc)
all_of (Some x0) (Some x1) (Some x2) (Some x3) (Some x4) None o6 o7 o8 o9 c e = absurd (cc)
all_of (Some x0) (Some x1) (Some x2) (Some x3) (Some x4) (Some x5) None o7 o8 o9 c e = absurd (cc)
all_of (Some x0) (Some x1) (Some x2) (Some x3) (Some x4) (Some x5) (Some x6) None o8 o9 c e = absurd (cc)
all_of (Some x0) (Some x1) (Some x2) (Some x3) (Some x4) (Some x5) (Some x6) (Some x7) None o9 c e = absurd (cc)
all_of (Some x0) (Some x1) (Some x2) (Some x3) (Some x4) (Some x5) (Some x6) (Some x7) (Some x8) None c e = absurd (cc)
all_of (Some x0) (Some x1) (Some x2) (Some x3) (Some x4) (Some x5) (Some x6) (Some x7) (Some x8) (Some x9) c e = (refl, (refl, (refl, (refl, (refl, (refl, (refl, (refl, (refl, (refl, tt))))))))))

pub first_decides : FirstDecides
unfolding cert_in goto_in ssa_in anf_in tail_in
first_decides = record {
  told = λ d f e. first_of (option_and_then number_in (within_goto (codes "entry") d)) (option_and_then number_in (within_goto (codes "end") d)) (option_and_then (many number_in) (within_goto (codes "nodes") d))
      (option_and_then (many block_in) (within_goto (codes "blocks") d)) (option_and_then (many number_in) (within_ssa (codes "names") d)) (option_and_then (many ssa_block_in) (within_ssa (codes "blocks") d))
      (option_and_then (many anf_block_in) (within (codes "blocks") (get (codes "anf") d))) (option_and_then (many number_in) (get (codes "labels") d)) (option_and_then (many type_in) (get (codes "columns") d))
      (option_and_then (many (many number_in)) (get (codes "places") d)) f e;
  all = λ d c e. all_of (option_and_then number_in (within_goto (codes "entry") d)) (option_and_then number_in (within_goto (codes "end") d)) (option_and_then (many number_in) (within_goto (codes "nodes") d))
      (option_and_then (many block_in) (within_goto (codes "blocks") d)) (option_and_then (many number_in) (within_ssa (codes "names") d)) (option_and_then (many ssa_block_in) (within_ssa (codes "blocks") d))
      (option_and_then (many anf_block_in) (within (codes "blocks") (get (codes "anf") d))) (option_and_then (many number_in) (get (codes "labels") d)) (option_and_then (many type_in) (get (codes "columns") d))
      (option_and_then (many (many number_in)) (get (codes "places") d)) c e;
}
