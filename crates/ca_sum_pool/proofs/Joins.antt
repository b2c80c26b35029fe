-- Parts that are put together and taken apart.
use Rattle.std.proofs.Common.{◌≡◌, ℕ, zero, ◌+◌, ◌<◌, ◌≤◌, Bool, false, List, [], ◌∷◌, ◌++◌, All, Option, Some, length, map, flat_map, reverse, option_to_list, sym, refl, ap, ◌∙◌, subst, arith, append-nil}
use Rattle.std.specs.Prelude.{Result, Ok, Err, IfOk}
use Rattle.std.proofs.lemmas.List.{length_push, length-append, map-append}
use Rattle.std.proofs.lemmas.List.Elements.{All-append, All-nil}
use Rattle.ca_meaning.specs.Multisets.{weight}
use Rattle.ca_order_laws.proofs.Weights.{weight_append}
use Rattle.ca_program.specs.Plain.{PlainProgram}
use Rattle.ca_model.specs.declared.value.Object.{Object}
use Rattle.ca_parallel.specs.Extents.{Extent}
use Rattle.ca_parallel.specs.declared.op.Op.{Op}
use Rattle.ca_logs.specs.declared.log.Task.{Task}
use Rattle.ca_logs.specs.declared.log.Entry.{Entry}
use Rattle.ca_logs.specs.Entries.{tasks_in, listed_by, task_after}
use Rattle.ca_logs.specs.Laws.{steps_of}
use Rattle.ca_logs.proofs.Tasks.{weight_map, weight_flat}
use Rattle.ca_deques.specs.Settings.{Setting, AllFit}
use Rattle.ca_deques.specs.Thieves.{OwnerView, OwnerKey, ThiefView, ThiefKey, owner_key, key_of, taken_by, dealt_by, pushed_by, taken_by_thief}
use Rattle.ca_deques.specs.Settling.{AreFresh, AreUnused, Settling, SameSums, all_of as all_thieves}
use Rattle.ca_deques.proofs.Places.{keyed_weight}
use Rattle.ca_deques.proofs.Backs.{keyed_settling, fresh_dealt}
use Rattle.ca_deques.proofs.Bands.{all_last, weight_last}
use Rattle.ca_deques.proofs.Parting.{moves_one, moves_none, moved_all, mirrored, last_unused, last_stole_nothing}
use Rattle.ca_beside.specs.declared.beside.Changed.{Changed}
use Rattle.ca_replica.specs.declared.replica.Replica.{Replica}
use Rattle.ca_replica.specs.Together.{Worker, all_entries, copies_of}
use Rattle.ca_sum_pool.specs.declared.performing.Stuck.{Stuck}
use Rattle.ca_sum_pool.specs.declared.working.Left.{Left}
use Rattle.ca_sum_pool.specs.Rounded.{IsSum, copies_in}
use Rattle.ca_sum_pool.specs.Parts.{PartKey, StopsSo, Did, Sound, Assembled, Given, Torn, TornOff, Worked, begun, mine_weight, tasks_of, ran_weight, made_weight, sums_within}
use Rattle.ca_sum_pool.proofs.Totals.{sums_more, sum_is}
use Rattle.ca_sum_pool.proofs.Begun.{begun_all, begun_none, begun_parted}

-- all parts that were put together, but for these owners and passes, and the calls up to a place
pub record Putting (listed : List Op) (end : ℕ) (owners₀ : List OwnerView) (thieves₀ : List (List ThiefView)) (owners : List OwnerView) (thieves : List (List ThiefView)) (parts : List PartKey) : Type 0 where
  pub count : length thieves ≡ length owners
  pub unused : AreUnused owners
  pub stolen : (h : Task → ℕ) → weight (taken_by_thief h) (all_thieves thieves) ≡ 0
  pub owner_keys : map owner_key owners₀ ≡ map owner_key owners ++ reverse (map (λ (p : PartKey). p.owner) parts)
  pub thief_keys : map (λ (ts : List ThiefView). map key_of ts) thieves₀ ≡ map (λ (ts : List ThiefView). map key_of ts) thieves ++ reverse (map (λ (p : PartKey). p.thieves) parts)
  pub given : (h : Task → ℕ) → mine_weight h parts + weight h (begun listed zero end) ≡ weight h (map (task_after 0) listed)
  pub all : owners ≡ [] → end ≡ 0

shorter : {A B : Type 0} (xs xs' : List A) (ys ys' : List B) (x : A) (y : B) → xs ≡ xs' ++ x ∷ [] → ys ≡ ys' ++ y ∷ [] → length ys ≡ length xs → length ys' ≡ length xs'
shorter xs xs' ys ys' x y e f n = let a = ap length e in let b = ap length f in let c = length_push xs' x in let d = length_push ys' y in omega (arith, a, b, c, d, n)

pub put_one : (listed : List Op) (end from : ℕ) (owners₀ owners owners' : List OwnerView) (thieves₀ thieves thieves' : List (List ThiefView)) (parts parts' : List PartKey) (o : OwnerView) (t : List ThiefView) (p : PartKey)
    → owners ≡ owners' ++ o ∷ [] → thieves ≡ thieves' ++ t ∷ [] → parts' ≡ parts ++ p ∷ [] → p ≡ record { owner = owner_key o; thieves = map key_of t; mine = begun listed from end } → from ≤ end → (length owners' ≡ 0 → from ≡ 0)
    → Putting listed end owners₀ thieves₀ owners thieves parts → Putting listed from owners₀ thieves₀ owners' thieves' parts'
put_one listed end from owners₀ owners owners' thieves₀ thieves thieves' parts parts' o t p eo et ep is within first i = record {
  count = shorter owners owners' thieves thieves' o t eo et i.count;
  unused = (last_unused owners owners' o eo i.unused).1;
  stolen = λ h. (last_stole_nothing thieves thieves' t et i.stolen h).1;
  owner_keys = moves_one owner_key (λ (q : PartKey). q.owner) owners₀ owners owners' parts parts' o p (sym (ap (λ (q : PartKey). q.owner) is)) i.owner_keys eo ep;
  thief_keys = moves_one (λ (ts : List ThiefView). map key_of ts) (λ (q : PartKey). q.thieves) thieves₀ thieves thieves' parts parts' t p (sym (ap (λ (q : PartKey). q.thieves) is)) i.thief_keys et ep;
  given = λ h. omega (arith, i.given h, weight_last (λ (q : PartKey). weight h q.mine) parts' parts p ep, ap (λ (q : PartKey). weight h q.mine) is, begun_parted h listed from end within);
  all = λ none. first (ap length none);
}

-- no calls are given yet
pub put_none : (listed : List Op) (calls : ℕ) (owners : List OwnerView) (thieves : List (List ThiefView)) (parts : List PartKey) → calls ≡ length listed → 0 < length owners → length thieves ≡ length owners → AreUnused owners
    → ((h : Task → ℕ) → weight (taken_by_thief h) (all_thieves thieves) ≡ 0) → parts ≡ [] → Putting listed calls owners thieves owners thieves parts
put_none listed calls owners thieves parts many some count unused stolen none =
    subst (λ (ps : List PartKey). Putting listed calls owners thieves owners thieves ps) (sym none) (record {
      count = count;
      unused = unused;
      stolen = stolen;
      owner_keys = moves_none owner_key (λ (q : PartKey). q.owner) owners;
      thief_keys = moves_none (λ (ts : List ThiefView). map key_of ts) (λ (q : PartKey). q.thieves) thieves;
      given = λ h. let a : weight h (begun listed zero calls) ≡ weight h (map (task_after 0) listed) = ap (weight h) (ap (λ k. begun listed zero k) many ∙ begun_all listed) in omega (arith, a);
      all = λ e. absurd (let z = ap length e in omega (arith, z, some));
    })

pub given_all : (listed : List Op) (end : ℕ) (owners₀ owners : List OwnerView) (thieves₀ thieves : List (List ThiefView)) (parts : List PartKey) → owners ≡ [] → Putting listed end owners₀ thieves₀ owners thieves parts → Given listed parts
given_all listed end owners₀ owners thieves₀ thieves parts e i = record {
  all = λ h. let a : weight h (begun listed zero end) ≡ 0 = ap (λ k. weight h (begun listed zero k)) (i.all e) ∙ ap (weight h) (begun_none listed zero) in omega (arith, i.given h, a);
}

empty_of : {A B : Type 0} (xs : List A) (ys : List B) → xs ≡ [] → length ys ≡ length xs → ys ≡ []
empty_of xs [] e n = refl
empty_of xs (y ∷ ys) e n = absurd (let z = ap length e in omega (arith, n, z))

pub put_all : (listed : List Op) (end : ℕ) (owners₀ owners : List OwnerView) (thieves₀ thieves : List (List ThiefView)) (parts : List PartKey) → owners ≡ [] → Putting listed end owners₀ thieves₀ owners thieves parts → Assembled owners₀ thieves₀ parts
put_all listed end owners₀ owners thieves₀ thieves parts e i = record {
  owner_keys = moved_all owner_key (λ (q : PartKey). q.owner) owners₀ owners parts e i.owner_keys;
  thief_keys = moved_all (λ (ts : List ThiefView). map key_of ts) (λ (q : PartKey). q.thieves) thieves₀ thieves parts (empty_of owners thieves e i.count) i.thief_keys;
}

-- what two clauses say of a result
both_ok : {T E : Type 0} (r : Result T E) (P Q R : Type 0) → (P → Q → R) → IfOk r (λ _. P) → IfOk r (λ _. Q) → IfOk r (λ _. R)
both_ok (Ok x) P Q R f p q = f p q
both_ok (Err e) P Q R f p q = tt

-- the copies of one replica more
pub copies_more : (more old : List Replica) (r : Replica) → more ≡ old ++ r ∷ [] → copies_in more ≡ copies_in old ++ r.copies ∷ []
copies_more more old r e = ap copies_in e ∙ map-append (λ (q : Replica). q.copies) old (r ∷ [])

-- one part was taken apart
pub torn_off : {T E : Type 0} (s : Setting) (x : Extent) (left own : ℕ) (owners owners' : List OwnerView) (thieves thieves' : List (List ThiefView)) (replicas replicas' : List Replica) (stucks stucks' : List Stuck) (count count' : ℕ) (steps steps' : Option ℕ) (rest mid rest' share mine waits : List Task) (p : PartKey) (o : OwnerView) (t : List ThiefView) (replica : Replica) (stuck : Option Stuck) (own_count : ℕ) (own_steps : Option ℕ) (short : Bool) (r : Result T E)
    → own ≡ left → owners' ≡ owners ++ o ∷ [] → thieves' ≡ thieves ++ t ∷ [] → replicas' ≡ replicas ++ replica ∷ [] → stucks' ≡ stucks ++ option_to_list stuck → count' ≤ count + own_count → steps' ≡ sums_within own steps own_steps
    → p ≡ record { owner = owner_key o; thieves = map key_of t; mine = mine } → Sound s x left o.hand t replica.copies share mine waits stuck own_count own_steps short → short ≡ false
    → (AllFit s rest → AllFit s mid) → ((h : Task → ℕ) → weight h mid ≡ weight h rest + weight h waits)
    → IfOk r (λ _. (z : Setting) → AllFit z share → AllFit z mid → AllFit z rest') → IfOk r (λ _. (h : Task → ℕ) → weight h rest' ≡ weight h mid + weight h share)
    → IfOk r (λ _. TornOff s x left p owners owners' thieves thieves' (copies_in replicas) (copies_in replicas') stucks stucks' count count' steps steps' rest rest')
torn_off s x left own owners owners' thieves thieves' replicas replicas' stucks stucks' count count' steps steps' rest mid rest' share mine waits p o t replica stuck own_count own_steps short r same eo et er es ec en is sound all_there fits_mid added fits poured = both_ok r _ _ _ (λ fit more. record {
  owner = o;
  passes = t;
  copies = replica.copies;
  share = share;
  mine = mine;
  waits = waits;
  stuck = stuck;
  own_count = own_count;
  own_steps = own_steps;
  owners_are = eo;
  thieves_are = et;
  replicas_are = copies_more replicas' replicas replica er;
  stucks_are = es;
  count_is = ec;
  steps_are = en ∙ ap (λ n. sums_within n steps own_steps) same;
  part_is = is;
  sound = subst (λ (b : Bool). Sound s x left o.hand t replica.copies share mine waits stuck own_count own_steps b) all_there sound;
  fits = λ a. fit s sound.fits (fits_mid a);
  poured = λ h. omega (arith, more h, added h);
}) fits poured

-- ---- workers, one more at the end

module _ {p : PlainProgram} {x : Extent} {frozen : List Object} where
  pub entries_more : (g : Entry → ℕ) (ws : List (Worker p x frozen)) (w : Worker p x frozen) → weight g (all_entries (ws ++ w ∷ [])) ≡ weight g (all_entries ws) + weight g w.entries
  entries_more g [] w = let a : weight g (w.entries ++ []) ≡ weight g w.entries = ap (weight g) (append-nil w.entries) in omega (arith, a)
  entries_more g (v ∷ ws) w = let a = weight_append g v.entries (all_entries (ws ++ w ∷ [])) in let b = weight_append g v.entries (all_entries ws) in let c = entries_more g ws w in omega (arith, a, b, c)

  pub entries_longer : (ws : List (Worker p x frozen)) (w : Worker p x frozen) → length (all_entries (ws ++ w ∷ [])) ≡ length (all_entries ws) + length w.entries
  entries_longer [] w = let a : length (w.entries ++ []) ≡ length w.entries = ap length (append-nil w.entries) in omega (arith, a)
  entries_longer (v ∷ ws) w = let a = length-append v.entries (all_entries (ws ++ w ∷ [])) in let b = length-append v.entries (all_entries ws) in let c = entries_longer ws w in omega (arith, a, b, c)

  pub copies_longer : (ws : List (Worker p x frozen)) (w : Worker p x frozen) → copies_of (ws ++ w ∷ []) ≡ copies_of ws ++ w.copies ∷ []
  copies_longer [] w = refl
  copies_longer (v ∷ ws) w = ap (λ l. v.copies ∷ l) (copies_longer ws w)

-- all parts but these were taken apart
pub record Tearing (s : Setting) (x : Extent) (left : ℕ) (parts₀ parts : List PartKey) (owners : List OwnerView) (thieves : List (List ThiefView)) (replicas : List (List Changed)) (stucks : List Stuck) (count : ℕ) (steps : Option ℕ) (rest₀ rest : List Task) : Type 0 where
  pub owner_keys : map (λ (p : PartKey). p.owner) parts₀ ≡ map (λ (p : PartKey). p.owner) parts ++ reverse (map owner_key owners)
  pub thief_keys : map (λ (p : PartKey). p.thieves) parts₀ ≡ map (λ (p : PartKey). p.thieves) parts ++ reverse (map (λ (ts : List ThiefView). map key_of ts) thieves)
  pub workers : List (Worker s.program x s.frozen)
  pub copies_are : copies_of workers ≡ replicas
  pub stops : All (StopsSo s.program x s.frozen left) stucks
  pub counted : count ≤ length (all_entries workers)
  pub steps_are : IsSum left (steps_of (all_entries workers)) steps
  pub fits : AllFit s rest
  pub balance : (h : Task → ℕ) → weight (taken_by h) owners + weight (taken_by_thief h) (all_thieves thieves) + made_weight h (all_entries workers) + weight (dealt_by h) owners + weight h rest₀ + mine_weight h parts₀ ≡ ran_weight h (all_entries workers) + weight (pushed_by h) owners + weight h rest + weight h (tasks_of stucks) + mine_weight h parts

module _ (s : Setting) (x : Extent) (left : ℕ) where
  tear_none : (parts : List PartKey) (rest : List Task) → AllFit s rest → Tearing s x left parts parts [] [] [] [] 0 (Some 0) rest rest
  tear_none parts rest f = record {
    owner_keys = moves_none (λ (p : PartKey). p.owner) owner_key parts;
    thief_keys = moves_none (λ (p : PartKey). p.thieves) (λ (ts : List ThiefView). map key_of ts) parts;
    workers = [];
    copies_are = refl;
    stops = All-nil (StopsSo s.program x s.frozen left);
    counted = omega arith;
    steps_are = (refl, omega arith);
    fits = f;
    balance = λ h. omega arith;
  }

  pub tear_start : (parts : List PartKey) (rest : List Task) (owners : List OwnerView) (thieves : List (List ThiefView)) (replicas : List Replica) (stucks : List Stuck) → owners ≡ [] → thieves ≡ [] → replicas ≡ [] → stucks ≡ [] → AllFit s rest
      → Tearing s x left parts parts owners thieves (copies_in replicas) stucks 0 (Some 0) rest rest
  tear_start parts rest owners thieves replicas stucks eo et er es f =
      subst (λ (os : List OwnerView). Tearing s x left parts parts os thieves (copies_in replicas) stucks 0 (Some 0) rest rest) (sym eo)
      (subst (λ (ts : List (List ThiefView)). Tearing s x left parts parts [] ts (copies_in replicas) stucks 0 (Some 0) rest rest) (sym et)
      (subst (λ (rs : List Replica). Tearing s x left parts parts [] [] (copies_in rs) stucks 0 (Some 0) rest rest) (sym er)
      (subst (λ (zs : List Stuck). Tearing s x left parts parts [] [] [] zs 0 (Some 0) rest rest) (sym es) (tear_none parts rest f))))

  pub tear_one : (parts₀ parts parts' : List PartKey) (owners owners' : List OwnerView) (thieves thieves' : List (List ThiefView)) (replicas replicas' : List (List Changed)) (stucks stucks' : List Stuck) (count count' : ℕ) (steps steps' : Option ℕ) (rest₀ rest rest' : List Task) (p : PartKey)
      → parts ≡ parts' ++ p ∷ [] → (t : TornOff s x left p owners owners' thieves thieves' replicas replicas' stucks stucks' count count' steps steps' rest rest')
      → Tearing s x left parts₀ parts owners thieves replicas stucks count steps rest₀ rest → Tearing s x left parts₀ parts' owners' thieves' replicas' stucks' count' steps' rest₀ rest'
  tear_one parts₀ parts parts' owners owners' thieves thieves' replicas replicas' stucks stucks' count count' steps steps' rest₀ rest rest' p ep t i = record {
    owner_keys = moves_one (λ (q : PartKey). q.owner) owner_key parts₀ parts parts' owners owners' p t.owner (ap (λ (q : PartKey). q.owner) t.part_is) i.owner_keys ep t.owners_are;
    thief_keys = moves_one (λ (q : PartKey). q.thieves) (λ (ts : List ThiefView). map key_of ts) parts₀ parts parts' thieves thieves' p t.passes (ap (λ (q : PartKey). q.thieves) t.part_is) i.thief_keys ep t.thieves_are;
    workers = i.workers ++ w ∷ [];
    copies_are = copies_longer i.workers w ∙ (ap (λ l. l ++ t.copies ∷ []) i.copies_are ∙ sym t.replicas_are);
    stops = subst (All (StopsSo s.program x s.frozen left)) (sym t.stucks_are) (All-append (StopsSo s.program x s.frozen left) stucks (option_to_list t.stuck) i.stops d.stops);
    counted = omega (arith, i.counted, d.counted, t.count_is, entries_longer i.workers w);
    steps_are = sum_is left _ _ steps' (sym (entries_more (λ (e : Entry). e.steps) i.workers w)) (subst (IsSum left (steps_of (all_entries i.workers) + steps_of d.entries)) (sym t.steps_are) (sums_more left (steps_of (all_entries i.workers)) (steps_of d.entries) steps t.own_steps i.steps_are d.steps_are));
    fits = t.fits i.fits;
    balance = λ h. omega (
      arith,
      i.balance h,
      d.balance h,
      t.poured h,
      weight_last (λ (q : PartKey). weight h q.mine) parts parts' p ep,
      ap (λ (q : PartKey). weight h q.mine) t.part_is,
      weight_last (taken_by h) owners' owners t.owner t.owners_are,
      weight_last (dealt_by h) owners' owners t.owner t.owners_are,
      weight_last (pushed_by h) owners' owners t.owner t.owners_are,
      ap (weight (taken_by_thief h)) (all_last thieves thieves' t.passes t.thieves_are),
      weight_append (taken_by_thief h) (all_thieves thieves) t.passes,
      entries_more (λ (e : Entry). weight h (listed_by e)) i.workers w,
      entries_more (λ (e : Entry). h e.task) i.workers w,
      ap (λ (zs : List Stuck). weight h (tasks_of zs)) t.stucks_are,
      ap (weight h) (map-append (λ (z : Stuck). z.task) stucks (option_to_list t.stuck)),
      weight_append h (tasks_of stucks) (tasks_of (option_to_list t.stuck)),
    );
  }
    where
      d : Did s x left (let v : OwnerView = t.owner in v.hand) t.passes t.copies t.share t.mine t.waits t.stuck t.own_count t.own_steps
      d = t.sound.did refl

      w : Worker s.program x s.frozen
      w = record { entries = d.entries; copies = t.copies; apart = d.once; replicates = d.leads }

  pub tear_all : (parts₀ parts : List PartKey) (owners : List OwnerView) (thieves : List (List ThiefView)) (replicas : List (List Changed)) (stucks : List Stuck) (count : ℕ) (steps : Option ℕ) (rest₀ rest : List Task) → parts ≡ [] → Tearing s x left parts₀ parts owners thieves replicas stucks count steps rest₀ rest → Torn s x left parts₀ owners thieves replicas stucks count steps rest₀ rest
  tear_all parts₀ parts owners thieves replicas stucks count steps rest₀ rest e i = record {
    assembled = record {
      owner_keys = mirrored _ _ (moved_all (λ (q : PartKey). q.owner) owner_key parts₀ parts owners e i.owner_keys);
      thief_keys = mirrored _ _ (moved_all (λ (q : PartKey). q.thieves) (λ (ts : List ThiefView). map key_of ts) parts₀ parts thieves e i.thief_keys);
    };
    workers = i.workers;
    copies_are = i.copies_are;
    stops = i.stops;
    counted = i.counted;
    steps_are = i.steps_are;
    fits = i.fits;
    balance = λ h. omega (arith, i.balance h, ap (mine_weight h) e);
  }

-- ---- the whole

-- the keys of all passes
abbrev flat_keys : List (List ThiefKey) → List ThiefKey
flat_keys [] = []
flat_keys (ks ∷ kss) = ks ++ flat_keys kss

keys_of_all : (bands : List (List ThiefView)) → map key_of (all_thieves bands) ≡ flat_keys (map (λ (ts : List ThiefView). map key_of ts) bands)
keys_of_all [] = refl
keys_of_all (ts ∷ bands) = map-append key_of ts (all_thieves bands) ∙ ap (λ (l : List ThiefKey). map key_of ts ++ l) (keys_of_all bands)

-- the same keys, so the same passes are out
pub torn_settling : (s : Setting) (x : Extent) (left : ℕ) (parts : List PartKey) (owners now : List OwnerView) (thieves after : List (List ThiefView)) (replicas : List (List Changed)) (stucks : List Stuck) (count : ℕ) (steps : Option ℕ) (rest more : List Task)
    → Assembled owners thieves parts → (ran : List PartKey) → Torn s x left ran now after replicas stucks count steps rest more → Settling owners (all_thieves thieves) → ran ≡ parts → Settling now (all_thieves after)
torn_settling s x left parts owners now thieves after replicas stucks count steps rest more a₀ ran t h same =
    let a : Assembled owners thieves ran = subst (Assembled owners thieves) (sym same) a₀ in
    keyed_settling owners now (all_thieves thieves) (all_thieves after) (t.assembled.owner_keys ∙ sym a.owner_keys)
    (keys_of_all after ∙ (ap flat_keys (t.assembled.thief_keys ∙ sym a.thief_keys) ∙ sym (keys_of_all thieves))) h

pub worked : (s : Setting) (x : Extent) (left : ℕ) (parts ran : List PartKey) (fresh opened dealt torn : List OwnerView) (thieves after : List (List ThiefView)) (listed : List Op) (first none refused shared : List Task) (l : Left)
    → AreFresh fresh → SameSums fresh opened [] (all_thieves thieves)
    → ((h : Task → ℕ) → weight (dealt_by h) dealt + weight h refused ≡ weight (dealt_by h) opened + weight h none + weight h first)
    → Assembled dealt thieves parts → Given listed parts → Torn s x left ran torn after (copies_in l.replicas.items) l.stuck.items l.count l.steps refused shared
    → ((h : Task → ℕ) → weight (pushed_by h) torn + weight h shared ≡ weight (taken_by h) torn + weight (taken_by_thief h) (all_thieves after) + weight h l.rest.items)
    → AllFit s l.rest.items → none ≡ [] → ran ≡ parts → Worked s x left (map (task_after 0) listed ++ first) l
worked s x left parts ran fresh opened dealt torn thieves after listed first none refused shared l is_fresh sums deals a₀ given t settled fits no_rest same = let a : Assembled dealt thieves ran = subst (Assembled dealt thieves) (sym same) a₀ in record {
  workers = t.workers;
  copies_are = t.copies_are;
  stops = t.stops;
  counted = t.counted;
  steps_are = t.steps_are;
  fits = fits;
  balanced = record {
    weighed = λ h. let es : List Entry = all_entries t.workers in omega (
      arith,
      t.balance h,
      settled h,
      deals h,
      given.all h,
      ap (mine_weight h) same,
      weight_append h (map (task_after 0) listed) first,
      ap (weight h) no_rest,
      sums.dealt h,
      fresh_dealt fresh is_fresh h,
      keyed_weight owner_key (λ (k : OwnerKey). weight h k.2) dealt torn (t.assembled.owner_keys ∙ sym a.owner_keys),
      weight_append h (tasks_in es) (l.rest.items ++ tasks_of l.stuck.items),
      weight_append h l.rest.items (tasks_of l.stuck.items),
      weight_map h (λ (e : Entry). e.task) es,
      weight_append h (map (task_after 0) listed ++ first) (flat_map listed_by es),
      weight_flat h listed_by es,
    );
  };
}
