-- What a line of a script asks for, or why it cannot be read: first that it has a kind word, then the word, then its length, then each number from the left.
use Rattle.std.specs.Prelude.{ℕ, Bool, cond, ◌&&◌, List, length, Some, None, Ok, Err, codes, Option, Result, ◌==◌, nat_le, nat_lt}
use Rattle.formats.specs.Sheets.{and_then, of_kind, number_at}
use Rattle.formats.specs.declared.refusal.Refusal.{Refusal}
use Rattle.formats.specs.declared.refusal.Refusal.TheVariants.{BadLine, WrongKind}
use Rattle.compare_engines.specs.declared.kind.Kind.{Kind}
use Rattle.compare_engines.specs.declared.kind.Kind as kind
use Rattle.compare_engines.specs.declared.order.Order.{Order}
use Rattle.compare_engines.specs.declared.order.Order as order

-- the kind that the first four letters name
abbrev pub kind_of : List ℕ → Option Kind
kind_of bs =
    cond (of_kind (codes "NETW") bs) (Some kind.TheVariants.Netw)
    (cond (of_kind (codes "OPEN") bs) (Some kind.TheVariants.Open)
    (cond (of_kind (codes "SHUT") bs) (Some kind.TheVariants.Shut)
    (cond (of_kind (codes "LIMT") bs) (Some kind.TheVariants.Limt)
    (cond (of_kind (codes "VALV") bs) (Some kind.TheVariants.Valv)
    (cond (of_kind (codes "REPT") bs) (Some kind.TheVariants.Rept)
    (cond (of_kind (codes "GOVN") bs) (Some kind.TheVariants.Govn)
    (cond (of_kind (codes "SHET") bs) (Some kind.TheVariants.Shet)
    (cond (of_kind (codes "FLOW") bs) (Some kind.TheVariants.Flow)
    (cond (of_kind (codes "PLAC") bs) (Some kind.TheVariants.Plac)
    (cond (of_kind (codes "SCHD") bs) (Some kind.TheVariants.Schd)
    (cond (of_kind (codes "STEP") bs) (Some kind.TheVariants.Step)
    None)))))))))))

-- a line of this kind may have so many columns
abbrev pub fits : Kind → ℕ → Bool
fits kind.TheVariants.Netw n = n == 24
fits kind.TheVariants.Open n = n == 9
fits kind.TheVariants.Shut n = n == 9
fits kind.TheVariants.Limt n = n == 14
fits kind.TheVariants.Valv n = nat_le 4 n
fits kind.TheVariants.Rept n = n == 4
fits kind.TheVariants.Govn n = n == 9
fits kind.TheVariants.Shet n = n == 4
fits kind.TheVariants.Flow n = n == 4
fits kind.TheVariants.Plac n = n == 9
fits kind.TheVariants.Schd n = n == 9
fits kind.TheVariants.Step n = nat_le 9 n

-- field k of line i, any number that five columns hold
abbrev pub number : ℕ → ℕ → List ℕ → Result ℕ Refusal
number i k bs = number_at i k 0 99999 bs

-- how many PIPE lines a sheet may have whose number of pipes was read so
abbrev pub at_most : Result ℕ Refusal → ℕ
at_most (Ok n) = n
at_most (Err e) = 512

-- a pipe, and its new limit
abbrev pub limit_in : ℕ → List ℕ → Result Order Refusal
limit_in i bs = and_then (number i 0 bs) (λ k. and_then (number i 1 bs) (λ l. Ok (order.TheVariants.Limit k l)))

-- what line i asks for, whose kind and length are right
abbrev pub asked : ℕ → List ℕ → Kind → Result Order Refusal
asked i bs kind.TheVariants.Netw = Ok (order.TheVariants.Sheet (at_most (number_at i 1 0 512 bs)))
asked i bs kind.TheVariants.Open = and_then (number i 0 bs) (λ k. Ok (order.TheVariants.Open k))
asked i bs kind.TheVariants.Shut = and_then (number i 0 bs) (λ k. Ok (order.TheVariants.Close k))
asked i bs kind.TheVariants.Limt = limit_in i bs
asked i bs kind.TheVariants.Valv = Ok order.TheVariants.Pattern
asked i bs kind.TheVariants.Rept = Ok order.TheVariants.Report
asked i bs kind.TheVariants.Govn = and_then (number i 0 bs) (λ k. Ok (order.TheVariants.Governing k))
asked i bs kind.TheVariants.Shet = Ok order.TheVariants.WriteSheet
asked i bs kind.TheVariants.Flow = Ok order.TheVariants.ReadFlow
asked i bs kind.TheVariants.Plac = and_then (number i 0 bs) (λ n. Ok (order.TheVariants.Places n))
asked i bs kind.TheVariants.Schd = Ok order.TheVariants.Schedule
asked i bs kind.TheVariants.Step = Ok order.TheVariants.Step

abbrev pub told : ℕ → List ℕ → Option Kind → Result Order Refusal
told i bs None = Err (WrongKind i)
told i bs (Some k) = cond (fits k (length bs)) (asked i bs k) (Err (BadLine i))

-- what line i asks for
abbrev pub order_in : ℕ → List ℕ → Result Order Refusal
order_in i bs = cond (nat_lt (length bs) 4) (Err (BadLine i)) (told i bs (kind_of bs))

-- the bytes begin with the kind word of a pipe
abbrev pub pipe_follows_in : List ℕ → Bool
pipe_follows_in bs = nat_le 4 (length bs) && of_kind (codes "PIPE") bs
