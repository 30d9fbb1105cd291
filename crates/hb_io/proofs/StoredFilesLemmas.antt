-- What a stored map stands for: a look-up in it, and the map after an insertion.
use Rattle.std.proofs.Common.{◌≡◌, ◌∙◌, sym, refl, ap, ℕ, Bool, true, false, cond, List, [], ◌∷◌, map, Option, Some, String, string_bytes, Vec}
use Rattle.std.specs.declared.alloc.Global.{Global}
use Rattle.std.specs.BTreeMap.{BTreeMap, Updates, get_by_text, is_at}
use Rattle.std.specs.String.{string_cmp}
use Rattle.std.specs.Map.{lookup}
use Rattle.std.specs.Option.{option_map}
use Rattle.std.specs.Ordering.{nat_cmp, is_eq, eq_by_cmp}
use Rattle.std.specs.Str.{bytes_eq}
use Rattle.std.proofs.lemmas.Cmp.{eq_by_cmp_equiv}
use Rattle.std.specs.Cmp.Lexicographic.{slice_cmp, nat_list_cmp_total}
use Rattle.std.specs.FinMap.{get, insert, find, get-from_entries, get-insert, same_map, slice_cmp-IsAntisymmetric, nat_cmp-IsAntisymmetric}
use Rattle.std.proofs.lemmas.Map.Text.{btree_map_updates_text, is_eq-slice_cmp}
use Rattle.hb_io.specs.StoredFiles.{files_of}

-- one entry of the finite map
abbrev named : String Global × Vec ℕ Global → List ℕ × List ℕ
named entry = (string_bytes entry.0, entry.1.items)

contents-cond : (b : Bool) (v : Vec ℕ Global) (o : Option (Vec ℕ Global)) → cond b (Some v.items) (option_map (λ w. w.items) o) ≡ option_map (λ w. w.items) (cond b (Some v) o)
contents-cond true v o = refl
contents-cond false v o = refl

find-named : (q : List ℕ) (es : List (String Global × Vec ℕ Global)) → find (slice_cmp nat_cmp) q (map named es) ≡ option_map (λ v. v.items) (lookup (is_at (λ k. slice_cmp nat_cmp q (string_bytes k))) es)
find-named q [] = refl
find-named q (e ∷ es) =
    ap (cond (is_eq (slice_cmp nat_cmp q (string_bytes e.0))) (Some e.1.items)) (find-named q es)
    ∙ contents-cond (is_eq (slice_cmp nat_cmp q (string_bytes e.0))) e.1 _

pub get-files_of : (m : BTreeMap (String Global) (Vec ℕ Global)) (q : List ℕ) → get (files_of m) q ≡ option_map (λ v. v.items) (get_by_text m q)
get-files_of m q = get-from_entries nat_list_cmp_total (map named m.entries) q ∙ find-named q m.entries

pub files_of-insert : (m n : BTreeMap (String Global) (Vec ℕ Global)) (k : String Global) (v : Vec ℕ Global) → Updates string_cmp m n k (Some v) → files_of n ≡ insert (files_of m) (string_bytes k) v.items
files_of-insert m n k v up =
    same_map nat_list_cmp_total (slice_cmp-IsAntisymmetric nat_cmp-IsAntisymmetric) _ _ (λ q.
    get-files_of n q
    ∙ ap (option_map (λ w. w.items)) (btree_map_updates_text (string_bytes k) m n (Some v) up q)
    ∙ sym (contents-cond (bytes_eq (string_bytes k) q) v (get_by_text m q))
    ∙ ap (λ b. cond b (Some v.items) (option_map (λ w. w.items) (get_by_text m q)))
    (sym (is_eq-slice_cmp (string_bytes k) q) ∙ (eq_by_cmp_equiv nat_list_cmp_total).symm (string_bytes k) q)
    ∙ ap (cond (eq_by_cmp (slice_cmp nat_cmp) q (string_bytes k)) (Some v.items)) (sym (get-files_of m q))
    ∙ sym (get-insert nat_list_cmp_total (files_of m) (string_bytes k) v.items q))
