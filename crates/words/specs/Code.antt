-- The number of each of the 38 events, in the order of 000's sections 2.3.1 to 2.3.7, with - where 000 has _. One number stands for one event word,
-- whatever the type of its line.
use Rattle.std.specs.Prelude.{ℕ}

abbrev pub trigger : ℕ
trigger = 0

abbrev pub activate : ℕ
activate = 1

abbrev pub interrupt_suspended : ℕ
interrupt_suspended = 2

abbrev pub mtalimitexceeded : ℕ
mtalimitexceeded = 3

abbrev pub park : ℕ
park = 4

abbrev pub poll : ℕ
poll = 5

abbrev pub poll_parking : ℕ
poll_parking = 6

abbrev pub preempt : ℕ
preempt = 7

abbrev pub release : ℕ
release = 8

abbrev pub release_parking : ℕ
release_parking = 9

abbrev pub resume : ℕ
resume = 10

abbrev pub run : ℕ
run = 11

abbrev pub start : ℕ
start = 12

abbrev pub terminate : ℕ
terminate = 13

abbrev pub wait : ℕ
wait = 14

abbrev pub suspend : ℕ
suspend = 15

abbrev pub schedule : ℕ
schedule = 16

abbrev pub schedulepoint : ℕ
schedulepoint = 17

abbrev pub clear_event : ℕ
clear_event = 18

abbrev pub set_event : ℕ
set_event = 19

abbrev pub wait_event : ℕ
wait_event = 20

abbrev pub read : ℕ
read = 21

abbrev pub write : ℕ
write = 22

abbrev pub assigned : ℕ
assigned = 23

abbrev pub decrement : ℕ
decrement = 24

abbrev pub free : ℕ
free = 25

abbrev pub full : ℕ
full = 26

abbrev pub increment : ℕ
increment = 27

abbrev pub lock : ℕ
lock = 28

abbrev pub lock_used : ℕ
lock_used = 29

abbrev pub overfull : ℕ
overfull = 30

abbrev pub queued : ℕ
queued = 31

abbrev pub released : ℕ
released = 32

abbrev pub requestsemaphore : ℕ
requestsemaphore = 33

abbrev pub unlock : ℕ
unlock = 34

abbrev pub unlock_full : ℕ
unlock_full = 35

abbrev pub used : ℕ
used = 36

abbrev pub waiting : ℕ
waiting = 37
