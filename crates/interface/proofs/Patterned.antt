-- A network whose valves are set by letters is as sound as before.
use Rattle.std.proofs.Common.{◌≡◌, ℕ, List, [], ◌∷◌, length, Some, None, Option, refl, arith}
use Rattle.std.specs.List.{AllByRecursion}
use Rattle.network.specs.Network.{Pipe, Network, Joins, Limited, Sound}
use Rattle.formats.specs.declared.setting.Setting.{Setting}
use Rattle.formats.specs.Letters.{setting_of}
use Rattle.interface.specs.Verdicts.{set_by, each_set_by, patterned}

-- what a pattern leaves of each pipe, it leaves of all
all_lettered : (P : Pipe → Type 0) → ((s : Option Setting) (p : Pipe) → P p → P (set_by s p)) → (bs : List ℕ) (ps : List Pipe) → AllByRecursion P ps → AllByRecursion P (each_set_by bs ps)
all_lettered P h [] ps a = a
all_lettered P h (b ∷ bs) [] a = a
all_lettered P h (b ∷ bs) (p ∷ ps) a = (h (setting_of b) p a.0, all_lettered P h bs ps a.1)

lettered_long : (bs : List ℕ) (ps : List Pipe) → length (each_set_by bs ps) ≡ length ps
lettered_long [] ps = refl
lettered_long (b ∷ bs) [] = refl
lettered_long (b ∷ bs) (p ∷ ps) = let e = lettered_long bs ps in omega arith

set_joins : (n : ℕ) (s : Option Setting) (p : Pipe) → Joins n p → Joins n (set_by s p)
set_joins n None p j = j
set_joins n (Some s) p j = record { from_in = j.from_in; to_in = j.to_in; apart = j.apart }

set_limited : (s : Option Setting) (p : Pipe) → Limited p → Limited (set_by s p)
set_limited None p l = l
set_limited (Some s) p l = record { some = l.some; few = l.few }

pub patterned_sound : (w : Network) (bs : List ℕ) → Sound w → Sound (patterned w bs)
patterned_sound w bs s = record {
  wired = record {
    pump_in = s.wired.pump_in;
    outlet_in = s.wired.outlet_in;
    apart = s.wired.apart;
    joins = all_lettered (Joins w.junctions) (set_joins w.junctions) bs w.pipes s.wired.joins;
  };
  two = s.two;
  most = s.most;
  held = omega (arith, s.held, lettered_long bs w.pipes);
  limited = all_lettered Limited set_limited bs w.pipes s.limited;
}
